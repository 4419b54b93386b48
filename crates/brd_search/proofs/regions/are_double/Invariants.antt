-- What is left of the regions tells.
use Rattle.std.proofs.Common.{◌≡◌, length}
use Rattle.brd_search.specs.Plans.{are_double}
use Rattle.brd_search.proofs.regions.are_double.Given as goal

abbrev pub invariant-regions : goal.invariant-regions
invariant-regions l = are_double l.fn.regions ≡ are_double l.rest

abbrev pub decreases-regions : goal.decreases-regions
decreases-regions l = length l.rest

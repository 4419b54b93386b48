-- What is left has the same digits without zeros.
use Rattle.std.proofs.Common.{◌≡◌, length}
use Rattle.brd_listing.specs.Places.{without_zeros}
use Rattle.brd_listing.proofs.number.without_zeros.Given as goal

abbrev pub invariant-loop-first : goal.invariant-loop-first
invariant-loop-first l = without_zeros l.left ≡ without_zeros l.digits

abbrev pub decreases-loop-first : goal.decreases-loop-first
decreases-loop-first l = length l.left

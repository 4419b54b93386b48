-- What is left of the events tells.
use Rattle.std.proofs.Common.{◌≡◌, length}
use Rattle.brd_search.specs.Plans.{is_twice}
use Rattle.brd_search.proofs.coming.is_twice.Given as goal

abbrev pub invariant-events : goal.invariant-events
invariant-events l = is_twice l.fn.events ≡ is_twice l.rest

abbrev pub decreases-events : goal.decreases-events
decreases-events l = length l.rest

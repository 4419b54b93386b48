-- the steps so far
use Rattle.std.proofs.Common.{◌≡◌}
use Rattle.brd_search.specs.Plans.{steps_of, times}
use Rattle.brd_search.proofs.coming.round.Given as goal

abbrev pub invariant-loop : goal.invariant-loop
invariant-loop l = l.round ≡ times l.counter (steps_of l.cpus)

-- the steps of the processors so far
use Rattle.std.proofs.Common.{◌≡◌, ◌++◌}
use Rattle.brd_search.specs.Plans.{steps_of}
use Rattle.brd_search.proofs.coming.add_steps.Given as goal

abbrev pub invariant-loop-cpu : goal.invariant-loop-cpu
invariant-loop-cpu l = l.events ≡ l.fn.events ++ steps_of l.cpu

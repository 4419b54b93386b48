-- Those below are done.
use Rattle.std.proofs.Common.{◌≡◌}
use Rattle.brd_kernel.specs.Waits.{prioritized_below}
use Rattle.brd_kernel.proofs.kernel.Kernel.give_priorities.Given as goal

abbrev pub invariant-loop-id : goal.invariant-loop-id
invariant-loop-id l = l.self ≡ prioritized_below l.fn.self l.priorities l.id

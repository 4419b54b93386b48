-- Those below are done.
use Rattle.std.proofs.Common.{◌≡◌}
use Rattle.brd_kernel.specs.Waits.{ceilings_below}
use Rattle.brd_kernel.proofs.kernel.Kernel.own_priorities.Given as goal

abbrev pub invariant-loop-at : goal.invariant-loop-at
invariant-loop-at l = l.priorities ≡ ceilings_below l.self l.at

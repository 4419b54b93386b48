-- Those below are done.
use Rattle.std.proofs.Common.{◌≡◌}
use Rattle.brd_kernel.specs.Waits.{given_below}
use Rattle.brd_kernel.proofs.kernel.Kernel.give_each.Given as goal

abbrev pub invariant-loop-at : goal.invariant-loop-at
invariant-loop-at l = l.self ≡ given_below l.fn.self l.id l.at

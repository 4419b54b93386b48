-- Those below are done.
use Rattle.std.proofs.Common.{◌≡◌}
use Rattle.brd_kernel.specs.Services.{is_over_below}
use Rattle.brd_kernel.proofs.kernel.Kernel.is_over_owned.Given as goal

abbrev pub invariant-loop-at : goal.invariant-loop-at
invariant-loop-at l = l.over ≡ is_over_below l.self l.id l.priority l.at

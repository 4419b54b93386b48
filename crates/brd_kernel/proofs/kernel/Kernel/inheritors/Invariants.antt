-- Those below are done.
use Rattle.std.proofs.Common.{◌≡◌, length}
use Rattle.brd_kernel.specs.Waits.{inheritors_below}
use Rattle.brd_kernel.proofs.kernel.Kernel.inheritors.Given as goal

abbrev pub invariant-loop-id : goal.invariant-loop-id
invariant-loop-id l = record { is : l.inheritors ≡ inheritors_below l.self l.id; long : length l.inheritors ≡ 256 }

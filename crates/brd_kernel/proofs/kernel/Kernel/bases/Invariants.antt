-- Those below are done.
use Rattle.std.proofs.Common.{◌≡◌, length}
use Rattle.brd_kernel.specs.Waits.{bases_below}
use Rattle.brd_kernel.proofs.kernel.Kernel.bases.Given as goal

abbrev pub invariant-loop-id : goal.invariant-loop-id
invariant-loop-id l = record { is : l.bases ≡ bases_below l.self.tasks l.id; long : length l.bases ≡ 256 }

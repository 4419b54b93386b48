-- Those below are done.
use Rattle.std.proofs.Common.{◌≡◌}
use Rattle.std.specs.Prelude.{true}
use Rattle.brd_kernel.specs.Waits.{rung_below}
use Rattle.brd_kernel.proofs.kernel.Kernel.ring_each.Given as goal

abbrev pub invariant-loop-place : goal.invariant-loop-place
invariant-loop-place l = record {
  same : l.self ≡ rung_below l.fn.self l.place;
  standard : l.self.standard ≡ true;
}

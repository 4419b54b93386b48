use Rattle.std.proofs.Common.{◌≡◌, length, take}
use Rattle.brd_patch.proofs.same.are_same_segments.Given as goal

abbrev pub invariant-loop-i : goal.invariant-loop-i
invariant-loop-i l = record {
  long : length l.segments ≡ length l.others;
  same : take l.i l.segments ≡ take l.i l.others;
}

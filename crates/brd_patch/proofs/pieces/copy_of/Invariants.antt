use Rattle.std.proofs.Common.{◌≡◌, take}
use Rattle.brd_patch.proofs.pieces.copy_of.Given as goal

abbrev pub invariant-loop-segment : goal.invariant-loop-segment
invariant-loop-segment l = l.all ≡ take l.segment-index l.segments

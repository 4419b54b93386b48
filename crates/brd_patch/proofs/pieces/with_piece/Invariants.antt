use Rattle.std.proofs.Common.{◌≡◌, take}
use Rattle.std.specs.Prelude.{flat_map}
use Rattle.brd_patch.specs.Data.{beside, end_of}
use Rattle.brd_patch.proofs.pieces.with_piece.Given as goal

abbrev pub invariant-loop-segment : goal.invariant-loop-segment
invariant-loop-segment l = record {
  low_is : l.low ≡ l.piece.address;
  high_is : l.high ≡ end_of l.piece;
  so_far : l.all ≡ flat_map (beside l.piece) (take l.segment-index l.segments);
}

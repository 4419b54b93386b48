use Rattle.std.proofs.Common.{◌≡◌, take}
use Rattle.brd_patch.specs.Data.{with_pieces}
use Rattle.brd_patch.proofs.pieces.with_pieces.Given as goal

abbrev pub invariant-loop-piece : goal.invariant-loop-piece
invariant-loop-piece l = l.all ≡ with_pieces l.segments (take l.piece-index l.pieces)

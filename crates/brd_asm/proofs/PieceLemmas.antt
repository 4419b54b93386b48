-- Pieces of the code, as contracts see them.
use Rattle.std.proofs.Common.{◌≡◌, List, [], ◌∷◌, ◌++◌, refl, ap}
use Rattle.std.specs.Prelude.{map}
use Rattle.brd_asm.specs.declared.piece.Piece as pieces
use Rattle.brd_asm.specs.Layout.{Piece}
use Rattle.brd_asm.specs.View as seen

pub pieces_push : (ps : List pieces.Piece) (p : pieces.Piece) → map seen.piece (ps ++ p ∷ []) ≡ map seen.piece ps ++ seen.piece p ∷ []
pieces_push [] p = refl
pieces_push (x ∷ ps) p = ap (λ (xs : List Piece). seen.piece x ∷ xs) (pieces_push ps p)

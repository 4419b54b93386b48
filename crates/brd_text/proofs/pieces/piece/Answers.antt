use Rattle.std.specs.Prelude.{option_map}
use Rattle.brd_text.proofs.PieceLemmas.{parts_are_pieces}
use Rattle.brd_text.proofs.pieces.piece.Goals as goal

pub returns-clause-pieces : goal.returns-clause-pieces
returns-clause-pieces c =
    parts_are_pieces c.args.text.now c.parted.result.0.now (option_map (λ it. it.now) c.parted.result.1) c.parted.ensures

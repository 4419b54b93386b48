use Rattle.std.proofs.Common.{sym, ◌∙◌, arith}
use Rattle.brd_debug.proofs.KeptLemmas.{size-played, order-played}
use Rattle.brd_debug.proofs.SpareLemmas.{same-played}
use Rattle.brd_debug.proofs.spare.bring.Goals as goal

pub copy_from-requires-clause-sizes : goal.copy_from-requires-clause-sizes
copy_from-requires-clause-sizes c =
    size-played c.requires.0 c.args.journal.now.events c.args.board.now c.requires.1
    ∙ sym (size-played c.requires.0 c.args.journal.now.events c.args.shown.now c.requires.2)

pub copy_from-requires-clause-orders : goal.copy_from-requires-clause-orders
copy_from-requires-clause-orders c =
    order-played c.requires.0 c.args.journal.now.events c.args.board.now c.requires.1
    ∙ sym (order-played c.requires.0 c.args.journal.now.events c.args.shown.now c.requires.2)

pub returns-then-shown-board-le-NEAR : goal.returns-then-shown-board-le-NEAR
returns-then-shown-board-le-NEAR c =
    same-played c.requires.0 c.args.journal.now.events c.play_to.new.self c.args.shown.now
    (c.play_to.ensures.played c.requires.0 c.requires.1) c.requires.2 (omega (arith, c.play_to.ensures.at))

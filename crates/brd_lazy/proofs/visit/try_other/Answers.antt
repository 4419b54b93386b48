use Rattle.std.proofs.Common.{refl, sym, ap, ◌∙◌}
use Rattle.std.specs.Prelude.{not}
use Rattle.std.proofs.lemmas.Bool.{false≢true}
use Rattle.brd_board.specs.Board.{BoardState, Happened, happens}
use Rattle.brd_spots.specs.Spots.{spot_of}
use Rattle.brd_spots.proofs.PlayLemmas.{done-nothing}
use Rattle.brd_lazy.proofs.visit.try_other.Goals as goal

pub returns-clause-known : goal.returns-clause-known
returns-clause-known c = λ here did.
    c.note_one.ensures.known (spot_of c.args.board.now c.args.margin) here refl
    (ap (λ (done : Happened). done.board) c.event_apart.ensures
    ∙ ap (λ (b : BoardState). (happens b c.args.event).board) c.in_ok-copy_over.ensures)

pub returns-then-did_nothing-clause-known : goal.returns-then-did_nothing-clause-known
returns-then-did_nothing-clause-known c = λ here did.
    absurd (false≢true (sym (done-nothing c.args.board.now c.copy_over.new.board c.args.event
    (record { board = c.event_apart.new.self; report = c.event_apart.result }) c.did_nothing.result c.event_apart.ensures c.in_ok-copy_over.ensures
    c.did_nothing.ensures ∙ ap not c.if-did_nothing.true) ∙ did))

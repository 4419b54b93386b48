use Rattle.std.proofs.Common.{◌≡◌, sym, ap, subst, ◌∙◌}
use Rattle.brd_board.specs.Board.{BoardState, Happened, happens}
use Rattle.brd_places.specs.declared.left.Left.{Left}
use Rattle.brd_reach.specs.Rounds.{IsPlace}
use Rattle.brd_reach.proofs.RoundLemmas.{same-left}
use Rattle.brd_reach.proofs.visit.try_other.Goals as goal

pub returns-clause-so : goal.returns-clause-so
returns-clause-so c = λ at rest is.
    let board_is : c.event_apart.new.self ≡ (happens c.args.board.now c.args.event).board =
    ap (λ (done : Happened). done.board) c.event_apart.ensures ∙ ap (λ (b : BoardState). (happens b c.args.event).board) c.in_ok-copy_over.ensures in
    let same : c.in-Some.rest ≡ rest = same-left c.in-Some.rest rest (sym c.in-Some.is ∙ c.paid.ensures ∙ is) in
    subst (λ (l : Left). IsPlace c.note.new.places l (happens c.args.board.now c.args.event).board) same
    (subst (IsPlace c.note.new.places c.in-Some.rest) board_is
    (c.in_ok-note.ensures.there (record { left = c.args.left; board = c.args.board.now }) at board_is))

use Rattle.std.proofs.Common.{◌≡◌, ◌∙◌, ℕ, ap, subst, sym}
use Rattle.std.specs.Prelude.{Option, Some}
use Rattle.brd_board.specs.Board.{happens}
use Rattle.brd_happening.specs.Before.{before_of}
use Rattle.brd_happening.specs.declared.before.Before.{Before}
use Rattle.brd_cover.specs.Counts.{CountsAt, executed_at, executed_by, if_fetched, place_by, place_in}
use Rattle.brd_cover.proofs.CountLemmas.{on_ok}
use Rattle.brd_cover.proofs.counting.Counting.advance.Goals as goal

pub returns-clause-counted : goal.returns-clause-counted
returns-clause-counted c =
    let board = c.args.self.now.playback.board in
    let event = c.args.rest.event in
    let at : executed_by (happens board event).report ≡ Some c.in-Some.address =
    rw (← c.advance-moved.ensures.report) (sym c.executed_by.ensures ∙ c.in-Some.is) in
    let place : place_by c.if_fetched-executed.result ≡ place_in board event =
    ap place_by (c.if_fetched-executed.ensures
    ∙ ap (λ (before : Before). if_fetched before.found c.in-Some.address) c.in_ok-before.ensures
    ∙ ap (λ (address : Option ℕ). executed_at (before_of board event).found address) (sym at)) in
    let counted : CountsAt c.args.self.now.counts.words.items c.note.new.self.counts.words.items
    (place_by c.if_fetched-executed.result) = rw c.note.ensures.counts c.in_ok-count.ensures.counts in
    on_ok c.note.result (subst (λ (p : Option ℕ). CountsAt c.args.self.now.counts.words.items
    c.note.new.self.counts.words.items p) place counted)

pub returns-in_err-count-clause-played : goal.returns-in_err-count-clause-played
returns-in_err-count-clause-played c = λ boot events long behind is.
    rw c.count.ensures.playback (c.advance-moved.ensures.played boot events long behind is)

pub returns-clause-played : goal.returns-clause-played
returns-clause-played c = λ boot events long behind is.
    rw (c.note.ensures.playback, c.count.ensures.playback) (c.advance-moved.ensures.played boot events long behind is)

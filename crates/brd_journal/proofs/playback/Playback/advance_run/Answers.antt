use Rattle.std.proofs.Common.{◌≡◌, ◌+◌, ◌<◌, refl, sym, ap, ◌∙◌, arith}
use Rattle.std.specs.Prelude.{true}
use Rattle.brd_board.specs.Board.{Happened, after}
use Rattle.brd_journal.specs.Runs.{copies}
use Rattle.brd_journal.specs.Still.{does_no_more}
use Rattle.brd_journal.proofs.PlayingLemmas.{more-board, run-played, rest-still, true-by}
use Rattle.brd_journal.proofs.playback.Playback.advance_run.Goals as goal
use Rattle.brd_journal.proofs.playback.Playback.advance_run.Goals.{After-repeat}

-- past the first position it goes only where the event does nothing
over : (c : After-repeat) → c.args.end < c.args.self.now.at + c.count_of-count.result → does_no_more c.args.rest.event c.event_apart-report.result ≡ true
over c far =
    sym c.does_no_more-over.ensures
    ∙ true-by c.does_no_more-over.result (λ on. omega (arith, far, c.count_of-count.ensures.few on, c.requires.on))

board : (c : After-repeat) → c.repeat.new.board ≡ after c.args.self.now.board (copies c.args.rest.event c.count_of-count.result)
board c =
    more-board c.args.self.now.board c.event_apart-report.new.self c.repeat.new.board c.args.rest.event c.event_apart-report.result c.count_of-count.result
    c.event_apart-report.ensures (c.count_of-count.ensures.some)
    (λ still. c.repeat.ensures (λ is. still (sym c.does_no_more-over.ensures ∙ is)))

pub returns-clause-report : goal.returns-clause-report
returns-clause-report c = ap (λ (done : Happened). done.report) c.event_apart-report.ensures

pub returns-clause-board : goal.returns-clause-board
returns-clause-board c = board (goal.at.returns-clause-board c).After-repeat

pub returns-clause-over : goal.returns-clause-over
returns-clause-over c = over (goal.at.returns-clause-over c).After-repeat

pub returns-clause-played : goal.returns-clause-played
returns-clause-played c = λ boot events within comes is.
    run-played boot events c.args.self.now _ c.count_of-count.result c.args.rest is comes c.count_of-count.ensures.run
    (board (goal.at.returns-clause-played c).After-repeat) refl (omega (arith, within, c.count_of-count.ensures.all, c.requires))

pub returns-clause-still : goal.returns-clause-still
returns-clause-still c = λ boot events comes is p above below.
    rest-still boot c.args.self.now.board events c.args.self.now.at c.count_of-count.result c.args.rest is.board comes
    (sym (ap (λ (done : Happened). does_no_more c.args.rest.event done.report) c.event_apart-report.ensures)
    ∙ over (goal.at.returns-clause-still c).After-repeat (omega (arith, above, below)))
    c.count_of-count.ensures.run p (omega (arith, above, c.requires.on)) below

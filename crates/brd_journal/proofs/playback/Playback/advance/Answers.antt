use Rattle.std.proofs.Common.{◌≡◌, refl, sym, ap, ◌∙◌, arith}
use Rattle.brd_board.specs.Board.{Happened, after}
use Rattle.brd_journal.specs.Runs.{copies}
use Rattle.brd_journal.proofs.EventLemmas.{copies-one}
use Rattle.brd_journal.proofs.PlayingLemmas.{run-played}
use Rattle.brd_journal.proofs.playback.Playback.advance.Goals as goal

pub returns-then-is_one_step-clause-board : goal.returns-then-is_one_step-clause-board
returns-then-is_one_step-clause-board c =
    ap (λ (done : Happened). done.board) c.event_apart-report.ensures ∙ ap (after c.args.self.now.board) (sym (copies-one c.args.rest.event))

pub returns-then-is_one_step-clause-played : goal.returns-then-is_one_step-clause-played
returns-then-is_one_step-clause-played c = λ boot events within comes is.
    let board : c.event_apart-report.new.self ≡ after c.args.self.now.board (copies c.args.rest.event 1) =
    ap (λ (done : Happened). done.board) c.event_apart-report.ensures ∙ ap (after c.args.self.now.board) (sym (copies-one c.args.rest.event)) in
    run-played boot events c.args.self.now _ 1 c.args.rest is comes c.requires.some board refl
    (omega (arith, within, c.requires.on, c.requires.past))

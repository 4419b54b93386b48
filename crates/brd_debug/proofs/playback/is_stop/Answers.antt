use Rattle.std.proofs.Common.{◌≡◌, ◌<◌, sym, ap, subst, ◌∙◌, arith}
use Rattle.std.specs.Prelude.{true, Some, slice_get, Decides}
use Rattle.brd_board.specs.Board.{BoardState, happens}
use Rattle.brd_journal.specs.Still.{does_no_more}
use Rattle.brd_journal.proofs.RestLemmas.{rest_some}
use Rattle.brd_journal.proofs.PlayingLemmas.{first-board}
use Rattle.brd_debug.specs.Watching.{IsSameUnless}
use Rattle.brd_debug.specs.Stops.{Meets}
use Rattle.brd_debug.specs.Touching.{touches}
use Rattle.brd_debug.proofs.PlayingLemmas.{decides-stop, none-after}
use Rattle.brd_debug.proofs.playback.is_stop.Goals as goal
use Rattle.brd_debug.proofs.playback.is_stop.Goals.{After-advance-moved}

-- more than one event is done only where it does nothing
over : (c : After-advance-moved) → 1 < c.advance-moved.result.count → does_no_more c.in-Some.rest.event (happens c.args.playback.now.board c.in-Some.rest.event).report ≡ true
over c more =
    sym (ap (does_no_more c.in-Some.rest.event) c.advance-moved.ensures.report)
    ∙ c.advance-moved.ensures.over (omega (arith, more, c.advance-moved.ensures.goes))

-- so the board is as the first event has left it
left : (c : After-advance-moved) → c.advance-moved.new.self.board ≡ (happens c.args.playback.now.board c.in-Some.rest.event).board
left c = first-board c.args.playback.now.board c.advance-moved.new.self.board c.in-Some.rest.event c.advance-moved.result.count
    c.advance-moved.ensures.goes.0 (over c) c.advance-moved.ensures.board

same : (c : After-advance-moved) → IsSameUnless c.may_change-may_change.result c.args.stops.now.watches c.args.playback.now.board.memory c.advance-moved.new.self.board.memory
same c =
    subst (λ (b : BoardState). IsSameUnless c.may_change-may_change.result c.args.stops.now.watches c.args.playback.now.board.memory b.memory) (sym (left c))
    c.may_change-may_change.ensures

pub returns-clause-bytes : goal.returns-clause-bytes
returns-clause-bytes c = c.are_met.ensures.bytes c.args.playback.now.board.memory c.requires.bytes (same (goal.at.returns-clause-bytes c).After-advance-moved)

pub returns-clause-played : goal.returns-clause-played
returns-clause-played c = λ boot is. c.advance-moved.ensures.played boot c.args.journal.now.events c.requires.within c.in-Some.ensures.comes is

pub returns-clause-still : goal.returns-clause-still
returns-clause-still c = λ boot is. c.advance-moved.ensures.still boot c.args.journal.now.events c.in-Some.ensures.comes is

pub returns-clause-stop : goal.returns-clause-stop
returns-clause-stop c =
    let d = (goal.at.returns-clause-stop c).After-advance-moved in
    λ boot is. decides-stop c.args.stops.now boot c.args.playback.now.board c.advance-moved.new.self.board c.args.journal.now.events c.args.playback.now.at
    c.in-Some.rest.event c.advance-moved.result.report c.are_met.result is.board
    (sym (rest_some c.args.journal.now.events c.args.playback.now.at c.in-Some.rest c.in-Some.ensures.comes)) c.advance-moved.ensures.report (left d)
    (subst (λ by. Decides c.are_met.result
    (Meets c.args.stops.now c.in-Some.rest.event c.advance-moved.result.report c.args.playback.now.board.memory
    (touches c.args.stops.now.reads c.args.stops.now.accesses c.args.playback.now.board c.in-Some.rest.event) by c.advance-moved.new.self.board))
    c.ahead-ahead.ensures.by
    (subst (λ touched. Decides c.are_met.result
    (Meets c.args.stops.now c.in-Some.rest.event c.advance-moved.result.report c.args.playback.now.board.memory touched c.ahead-ahead.result.by
    c.advance-moved.new.self.board))
    c.ahead-ahead.ensures.touches (c.are_met.ensures.stops c.args.playback.now.board.memory c.requires.bytes (same d))))

pub returns-clause-none : goal.returns-clause-none
returns-clause-none c =
    let d = (goal.at.returns-clause-none c).After-advance-moved in
    λ boot is m above below stop.
    none-after c.args.stops.now boot c.args.playback.now.board c.args.journal.now.events c.args.playback.now.at c.advance-moved.result.count c.in-Some.rest
    is.board c.in-Some.ensures.comes (over d) c.advance-moved.ensures.goes.1 m above (omega (arith, below, c.advance-moved.ensures.goes)) stop

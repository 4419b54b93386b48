-- The entries so far lead from where the way back has come.
use Rattle.std.specs.Prelude.{◌≡◌}
use Rattle.brd_board.specs.Board.{BoardState, after}
use Rattle.brd_places.specs.Places.{board_at, places_of, events_back}
use Rattle.brd_places.proofs.path.way_back.Given as goal

abbrev pub invariant-loop-entry : goal.invariant-loop-entry
invariant-loop-entry l = (start : BoardState) →
    after (board_at start (places_of start l.entries) l.at) (events_back l.back.items) ≡ board_at start (places_of start l.entries) l.i

abbrev pub decreases-loop-entry : goal.decreases-loop-entry
decreases-loop-entry l = l.at

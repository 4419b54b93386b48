-- The events after which a board shows what fails.
use Rattle.std.specs.Prelude.{Bool, ◌||◌, if◌then◌else◌, List, ◌++◌}
use Rattle.brd_board.specs.declared.event.Event.{Event}
use Rattle.brd_board.specs.Board.{BoardState, after}
use Rattle.brd_explore.specs.declared.wanted.Wanted.{Wanted}
use Rattle.brd_explore.specs.Failures.{fails_now, is_at_rest}
use Rattle.brd_search.specs.Plans.{times}

-- the events of the fair end
abbrev pub fair_end : Wanted → List Event
fair_end wanted = times wanted.rounds wanted.round

-- the board after events shows a failure, or is at rest
abbrev pub stops : Wanted → BoardState → Bool
stops wanted b = fails_now wanted b || is_at_rest b

-- these events, where the board after them shows a failure or is at rest, else these and those of the fair end
unfoldable pub shown : Wanted → BoardState → List Event → List Event
shown wanted b events = if stops wanted (after b events) then events else events ++ fair_end wanted

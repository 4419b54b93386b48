-- Events that leave a board as it is, however often they come in a row.
use Rattle.std.specs.Prelude.{◌≡◌, ◌||◌, Bool, true, false}
use Rattle.brd_board.specs.declared.event.Event.{Event}
use Rattle.brd_board.specs.declared.event.Event.TheVariants.{Step, Tick, Raise}
use Rattle.brd_board.specs.declared.event.Report.{Report}
use Rattle.brd_board.specs.declared.event.Report.TheVariants as report
use Rattle.brd_board.specs.Board.{BoardState, happens}

-- an event that reports this has done nothing
abbrev pub did_nothing : Report → Bool
did_nothing report.Off = true
did_nothing report.NoSuch = true
did_nothing report.Stopped = true
did_nothing (report.Accepted line) = false
did_nothing (report.Ran address) = false
did_nothing (report.Called address) = false
did_nothing (report.Faulted address) = false
did_nothing report.Idle = true
did_nothing report.Ticked = false
did_nothing report.TimeOver = true
did_nothing report.Raised = false

abbrev pub is_raise : Event → Bool
is_raise (Step cpu) = false
is_raise Tick = false
is_raise (Raise line) = true

-- Once an event has reported this, the same event again does nothing: it has done nothing itself, or it has raised a
-- line, which is pending now.
abbrev pub does_no_more : Event → Report → Bool
does_no_more event told = is_raise event || did_nothing told

-- A board that an event leaves as it is.
abbrev pub Rests : BoardState → Event → Type 0
Rests board event = (happens board event).board ≡ board

-- Which processor an event concerns besides the one whose step it is: one that does something else after it than
-- before.
use Rattle.std.specs.Prelude.{ℕ, ◌==◌, Bool, true, false, not, Option, None, Some}
use Rattle.brd_kernel.specs.declared.processor.Standing.{Standing}
use Rattle.brd_board.specs.declared.event.Event.{Event}
use Rattle.brd_board.specs.Board.{BoardState, happens, standing_of}

-- processors do the same: both are idle, or stopped, or run the same task or the handler of the same line
abbrev pub does_same : Option Standing → Option Standing → Bool
does_same None None = true
does_same (Some Standing.Idle) (Some Standing.Idle) = true
does_same (Some Standing.Stopped) (Some Standing.Stopped) = true
does_same (Some (Standing.Task id)) (Some (Standing.Task other)) = id == other
does_same (Some (Standing.Handler line)) (Some (Standing.Handler other)) = line == other
does_same _ _ = false

-- what the chosen processor does on a board, where one is chosen
abbrev pub chosen_standing : Option ℕ → BoardState → Option Standing
chosen_standing None board = None
chosen_standing (Some cpu) board = standing_of board cpu

-- The chosen processor, which stood so before, does something else on a board.
abbrev pub does_other : Option ℕ → Option Standing → BoardState → Bool
does_other None stood board = false
does_other (Some cpu) stood board = not (does_same stood (standing_of board cpu))

-- An event of a board concerns the chosen processor.
abbrev pub concerns : Option ℕ → BoardState → Event → Bool
concerns cpu board event = does_other cpu (chosen_standing cpu board) (happens board event).board

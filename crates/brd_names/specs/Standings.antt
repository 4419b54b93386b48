-- How a board stands: what its processors do, which tasks are there, and which events may change that.
use Rattle.std.specs.Prelude.{ℕ, ◌==◌, Bool, false, List, [], ◌∷◌, ◌++◌, map, filter, codes}
use Rattle.std.specs.Prelude.{true, Option, None, Some, is_some}
use Rattle.std.specs.List.{list_any, range_with_len}
use Rattle.brd_kernel.specs.declared.processor.Standing.{Standing}
use Rattle.brd_board.specs.Board.{BoardState, task_of, standing_of}
use Rattle.brd_names.specs.Lines.{named_text, called_text}
use Rattle.brd_board.specs.declared.event.Report.{Report}
use Rattle.brd_board.specs.declared.event.Report.TheVariants as report

-- ---- what goes on

-- a processor runs the task
abbrev pub has_task : ℕ → Option Standing → Bool
has_task id (Some (Standing.Task other)) = other == id
has_task id _ = false

abbrev pub runs_in : List (Option Standing) → ℕ → Bool
runs_in standings id = list_any (has_task id) standings

-- ---- all of it

-- the numbers of the tasks that are there, rising
unfoldable pub tasks_of : BoardState → List ℕ
tasks_of board = filter (λ id. is_some (task_of board id)) (range_with_len 1 255)

-- what the processors do, by their number; there is none of number 0
abbrev pub standings_of : BoardState → List (Option Standing)
standings_of board = None ∷ map (standing_of board) (range_with_len 1 8)

-- ---- what changes it

-- An event that reports this may change how tasks stand, what processors do, or whether the board is off. (No other
-- does.)
abbrev pub may_change : Report → Bool
may_change (report.Accepted line) = true
may_change (report.Called address) = true
may_change (report.Faulted address) = true
may_change report.Ticked = true
may_change report.Off = false
may_change report.NoSuch = false
may_change report.Stopped = false
may_change (report.Ran address) = false
may_change report.Idle = false
may_change report.TimeOver = false
may_change report.Raised = false

-- ---- a processor

abbrev pub standing_text : Option Standing → List ℕ
standing_text None = []
standing_text (Some Standing.Idle) = codes " idle"
standing_text (Some Standing.Stopped) = codes " stopped"
standing_text (Some (Standing.Task id)) = named_text (codes " runs task") id
standing_text (Some (Standing.Handler line)) = codes " runs " ++ called_text (codes "handler") line

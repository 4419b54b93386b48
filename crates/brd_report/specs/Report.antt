-- What `run` and `race` print of a board, and lines that `debug` prints too: how many events happened to it, the time,
-- each processor, each task, and the console (own choice).
use Rattle.std.specs.Prelude.{ℕ, List, [], ◌∷◌, ◌++◌, codes, length, if◌then◌else◌, Option, Some, None}
use Rattle.std.specs.Fmt.{decimal}
use Rattle.std.specs.List.{flat_map, range_with_len}
use Rattle.brd_exec.specs.State.{State}
use Rattle.brd_tasks.specs.declared.status.TaskState.{TaskState}
use Rattle.brd_tasks.specs.declared.status.TaskState.TheVariants.{Dormant, Ready, Waiting, Suspended, WaitingSuspended}
use Rattle.brd_tasks.specs.declared.task.TaskView.{TaskView}
use Rattle.brd_kernel.specs.declared.processor.Standing.{Standing}
use Rattle.brd_kernel.specs.declared.processor.Standing.TheVariants.{Idle, Stopped, Task, Handler}
use Rattle.brd_board.specs.Board.{BoardState, standing_of, registers_of, task_of}
use Rattle.brd_text.specs.Hex.{hex_of}

-- a name, a space and a number
abbrev pub number_line : List ℕ → ℕ → List ℕ
number_line name number = name ++ 32 ∷ decimal number ++ 10 ∷ []

-- the address of the next instruction of whoever executes; whoever does has a context
abbrev pub place_text : Option State → List ℕ
place_text None = []
place_text (Some context) = codes " pc " ++ hex_of context.pc

-- who executes: its kind, its number, and the address of its next instruction
abbrev pub executor_text : List ℕ → ℕ → Option State → List ℕ
executor_text kind number context = kind ++ 32 ∷ decimal number ++ place_text context

-- what a processor is doing, with the context in which it executes
abbrev pub standing_text : Standing → Option State → List ℕ
standing_text Idle context = codes "idle"
standing_text Stopped context = codes "stopped"
standing_text (Task id) context = executor_text (codes "task") id context
standing_text (Handler line) context = executor_text (codes "handler") line context

-- the line of a processor, where there is one of that number
abbrev pub processor_line : ℕ → Option Standing → Option State → List ℕ
processor_line cpu None context = []
processor_line cpu (Some standing) context =
    codes "cpu " ++ decimal cpu ++ 32 ∷ standing_text standing context ++ 10 ∷ []

abbrev pub state_text : TaskState → List ℕ
state_text Dormant = codes "dormant"
state_text Ready = codes "ready"
state_text Waiting = codes "waiting"
state_text Suspended = codes "suspended"
state_text WaitingSuspended = codes "waiting-suspended"

-- the line of a task, where there is one of that ID: its state, its present priority and its processor
abbrev pub task_line : ℕ → Option TaskView → List ℕ
task_line id None = []
task_line id (Some task) =
    codes "task " ++ decimal id ++ 32 ∷ state_text task.state
    ++ codes " pri " ++ decimal task.priority ++ codes " cpu " ++ decimal task.cpu ++ 10 ∷ []

-- processors 1 to 8
abbrev pub processors_shown : BoardState → List ℕ
processors_shown b = flat_map (λ cpu. processor_line cpu (standing_of b cpu) (registers_of b cpu)) (range_with_len 1 8)

-- tasks 1 to 255
abbrev pub tasks_shown : BoardState → List ℕ
tasks_shown b = flat_map (λ id. task_line id (task_of b id)) (range_with_len 1 255)

-- how many bytes the console holds, and these bytes, on lines of their own
abbrev pub console_shown : List ℕ → List ℕ
console_shown bytes = number_line (codes "console") (length bytes) ++ bytes ++ 10 ∷ []

-- the report of a board to which n events happened
abbrev pub report_of : ℕ → BoardState → List ℕ
report_of events b =
    number_line (codes "events") events
    ++ number_line (codes "tick") b.kernel.time.count
    ++ number_line (codes "off") (if b.kernel.off then 1 else 0)
    ++ processors_shown b ++ tasks_shown b ++ console_shown b.kernel.console

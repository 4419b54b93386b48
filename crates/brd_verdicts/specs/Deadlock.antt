-- A deadlock: tasks wait, and nothing that is under way on the board ends a wait.
use Rattle.std.specs.Prelude.{◌≡◌, ◌≢◌, ◌⊎◌, ◌≤◌, ℕ, true, false, Option, Some, None}
use Rattle.brd_tasks.specs.declared.status.TaskState.TheVariants.{Ready}
use Rattle.brd_tasks.specs.declared.task.TaskView.{TaskView}
use Rattle.brd_kernel.specs.Kernel.{timer_due}
use Rattle.brd_board.specs.declared.event.Event.TheVariants.{Step}
use Rattle.brd_board.specs.Board.{BoardState, happens, task_of}
use Rattle.brd_journal.specs.Still.{did_nothing}

-- there is a task, and it waits
abbrev pub Waits : Option TaskView → Type 0
Waits None = ⊥
Waits (Some task) = task.waiting ≢ None

-- there is a task, and it is ready, or its wait ends by a tick
abbrev pub GoesOn : Option TaskView → Type 0
GoesOn None = ⊥
GoesOn (Some task) = (task.state ≡ Ready) ⊎ (task.due ≢ None)

-- of some task of a board this is so; IDs go from 1 to 255
pub record HasTask (Is : Option TaskView → Type 0) (board : BoardState) : Type 0 where
  pub id : ℕ
  pub number : (1 ≤ id) × (id ≤ 255)
  pub is : Is (task_of board id)

-- some time handler is due at a tick; their places go from 0 to 127
pub record HasHandlerDue (board : BoardState) : Type 0 where
  pub place : ℕ
  pub number : place ≤ 127
  pub is : timer_due board.kernel place ≢ None

-- no step of a processor does anything: none runs a task or a handler, and none accepts an interrupt
abbrev pub NoStepDoes : BoardState → Type 0
NoStepDoes board = (cpu : ℕ) → 1 ≤ cpu → cpu ≤ 8 → did_nothing (happens board (Step cpu)).report ≡ true

-- The board is on, a task waits, none is ready, and neither a step of a processor nor a tick changes that: only an
-- interrupt line that is raised from outside could, or nothing.
pub record IsDeadlocked (board : BoardState) : Type 0 where
  pub on : board.kernel.off ≡ false
  pub waits : HasTask Waits board
  pub none : HasTask GoesOn board → ⊥
  pub untimed : HasHandlerDue board → ⊥
  pub still : NoStepDoes board

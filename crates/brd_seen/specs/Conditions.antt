-- A task's state and what it waits for, and what is kept of a task from one event to the next.
use Rattle.std.specs.Prelude.{◌≡◌, ◌⊎◌, ℕ, Option, Some}
use Rattle.std.specs.Option.{option_map}
use Rattle.brd_tasks.specs.declared.status.TaskState.{TaskState}
use Rattle.brd_tasks.specs.declared.status.WaitReason.{WaitReason}
use Rattle.brd_tasks.specs.declared.task.TaskView.{TaskView}
use Rattle.brd_board.specs.Board.{BoardState, task_of}
use Rattle.brd_seen.specs.declared.tasks.TaskSeen.{TaskSeen}

-- ---- since when a task is in its state

-- a task's state, and what it waits for
pub record Condition : Type 0 where
  pub state : TaskState
  pub waiting : Option WaitReason

abbrev pub condition_by : TaskView → Condition
condition_by view = record { state = view.state; waiting = view.waiting }

abbrev pub condition_of : BoardState → ℕ → Option Condition
condition_of board id = option_map condition_by (task_of board id)

-- ---- one event

-- A task as it was known, as it stands after the event of a position, and since when: in the same state, since the same
-- event;
pub record Same (old new : TaskSeen) (since : Option ℕ) : Type 0 where
  pub state : new.state ≡ old.state
  pub waiting : new.waiting ≡ old.waiting
  pub since_is : since ≡ old.since

-- or in another one, since this event
pub record Other (position : ℕ) (old new : TaskSeen) (since : Option ℕ) : Type 0 where
  pub apart : (new.state ≡ old.state) × (new.waiting ≡ old.waiting) → ⊥
  pub since_is : since ≡ Some position

pub record FollowsTask (position : ℕ) (old new : TaskSeen) : Type 0 where
  pub id : new.id ≡ old.id
  pub since : Same old new new.since ⊎ Other position old new new.since

-- A circular wait: tasks that wait for each other.
use Rattle.std.specs.Prelude.{◌≡◌, ℕ, ◌==◌, Bool, true, not, ◌&&◌, ◌||◌, List, All, Decides, Option, None, Some}
use Rattle.std.specs.List.{Contains, filter, filter_map, list_all, list_any, range_with_len}
use Rattle.brd_tasks.specs.declared.status.WaitKind.TheVariants as kind
use Rattle.brd_tasks.specs.declared.status.WaitReason.{WaitReason}
use Rattle.brd_tasks.specs.declared.status.WaitReason.TheVariants.{On}
use Rattle.brd_tasks.specs.declared.task.TaskView.{TaskView}
use Rattle.brd_board.specs.Board.{BoardState, task_of}
use Rattle.brd_verdicts.specs.declared.circle.Wait.{Wait}
use Rattle.brd_verdicts.specs.declared.units.{Unit.Unit, Units.Units}
use Rattle.brd_verdicts.specs.declared.units.Lock.TheVariants as lock
use Rattle.brd_verdicts.specs.Units.{is_same, lock_units}

-- a task is one of these that wait
abbrev pub is_among : List Wait → ℕ → Bool
is_among those task = list_any (λ wait. wait.task == task) those

-- a unit is one of what a task waits for
abbrev pub is_of : Wait → Unit → Bool
is_of wait unit = is_same wait.lock unit.lock

-- Some task has a unit of what this one waits for, and each that has one is among these.
abbrev pub is_held : List Unit → List Wait → Wait → Bool
is_held units those wait =
    list_any (is_of wait) units && list_all (λ unit. not (is_of wait unit) || is_among those unit.task) units

-- Some of the tasks that wait are a circle: each waits for what none but they have.
pub record IsCircle (units : List Unit) (waits those : List Wait) : Type 0 where
  pub among : All (Contains waits) those
  pub held : All (λ wait. is_held units those wait ≡ true) those

-- a task that waits is in a circle
pub record IsInCircle (units : List Unit) (waits : List Wait) (wait : Wait) : Type 0 where
  pub those : List Wait
  pub circle : IsCircle units waits those
  pub in_it : Contains those wait

-- Of the tasks that wait these are all that are in a circle, in their order.
pub record AreCircular (units : List Unit) (waits found : List Wait) : Type 0 where
  pub test : Wait → Bool
  pub those : found ≡ filter test waits
  pub exactly : (wait : Wait) → Contains waits wait → Decides (test wait) (IsInCircle units waits wait)

-- ---- on a board

-- a task waits without an end for a semaphore or a mutex
abbrev pub wait_for : ℕ → Option WaitReason → Option ℕ → Option Wait
wait_for task (Some (On kind.Semaphore semaphore)) None =
    Some (record { task = task; lock = lock.Semaphore semaphore })
wait_for task (Some (On kind.Mutex mutex)) None = Some (record { task = task; lock = lock.Mutex mutex })
wait_for task reason due = None

abbrev pub wait_by : ℕ → Option TaskView → Option Wait
wait_by task None = None
wait_by task (Some view) = wait_for task view.waiting view.due

abbrev pub wait_in : BoardState → ℕ → Option Wait
wait_in board task = wait_by task (task_of board task)

-- those that do, by ascending ID
abbrev pub waits_of : BoardState → List Wait
waits_of board = filter_map (wait_in board) (range_with_len 1 255)

-- The tasks of a board that wait for each other: for semaphores that serve as locks, and for mutexes.
abbrev pub IsCircularWait : Units → BoardState → List Wait → Type 0
IsCircularWait units board found = AreCircular (lock_units units board) (waits_of board) found

-- Whom an event releases: the tasks that wait before it, and whose call is answered after it.
use Rattle.std.specs.Prelude.{ℕ, ◌==◌, Bool, true, false, not, ◌&&◌, if◌then◌else◌, List, Option, None, Some, is_some}
use Rattle.std.specs.List.{filter_map, range_with_len}
use Rattle.brd_exec.specs.State.{State, read}
use Rattle.brd_tasks.specs.declared.status.TaskState.{TaskState}
use Rattle.brd_tasks.specs.declared.task.TaskView.{TaskView}
use Rattle.brd_sysgate.specs.Gate.{arguments_of}
use Rattle.brd_board.specs.Board.{BoardState, task_of}
use Rattle.brd_happening.specs.declared.release.{AskedCall.AskedCall, Waiter.Waiter, Release.Release}

-- the number in $v0, the arguments in $a0 to $a3
abbrev pub asked_of : State → AskedCall
asked_of s = record { number = read s 2; arguments = arguments_of s }

-- Who waits. While a task waits its registers are those with which it made its call.

abbrev pub waiter_by : ℕ → TaskView → Waiter
waiter_by id view = record { task = id; asked = asked_of view.context; activations = view.activations }

abbrev pub waiter_seen : ℕ → Option TaskView → Option Waiter
waiter_seen id None = None
waiter_seen id (Some view) = if is_some view.waiting then Some (waiter_by id view) else None

-- the task of an ID, if it waits
abbrev pub waiter_in : BoardState → ℕ → Option Waiter
waiter_in b id = waiter_seen id (task_of b id)

-- the tasks that wait, by ascending ID
abbrev pub waiters_of : BoardState → List Waiter
waiters_of b = filter_map (waiter_in b) (range_with_len 1 255)

-- Whose wait has ended.

abbrev pub has_ended : TaskState → Bool
has_ended TaskState.Dormant = true
has_ended TaskState.Ready = false
has_ended TaskState.Waiting = false
has_ended TaskState.Suspended = false
has_ended TaskState.WaitingSuspended = false

-- It waits no more. A task that was ended waits no more either: it is dormant, or a start that was queued is queued no
-- more and it has begun anew.
abbrev pub is_released : Waiter → TaskView → Bool
is_released waiter view =
    not (is_some view.waiting) && not (has_ended view.state) && (view.activations == waiter.activations)

-- the answer to the call in which it waited: $v0, and $v1
abbrev pub release_by : Waiter → TaskView → Release
release_by waiter view = record {
  task = waiter.task;
  asked = waiter.asked;
  code = read view.context 2;
  second = read view.context 3;
}

abbrev pub release_seen : Waiter → Option TaskView → Option Release
release_seen waiter None = None
release_seen waiter (Some view) = if is_released waiter view then Some (release_by waiter view) else None

abbrev pub release_in : BoardState → Waiter → Option Release
release_in after waiter = release_seen waiter (task_of after waiter.task)

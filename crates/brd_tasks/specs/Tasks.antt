-- The tasks, and what each of the kernel's operations makes of them.
use Rattle.std.specs.Prelude.{ℕ, ◌+◌, max, Bool, false, not, ◌&&◌, if◌then◌else◌, List, [], ◌∷◌, map, replicate, find, ◌==◌}
use Rattle.std.specs.Prelude.{slice_index_or, slice_set, Option, None, Some, is_some, unwrap_or}
use Rattle.std.specs.List.{range_with_len}
use Rattle.std.specs.Option.{option_map}
use Rattle.brd_exec.specs.State.{State, opening, write}
use Rattle.brd_queue.specs.Queue.{Plain, behind_equals, without, rotated, first_of}
use Rattle.brd_tasks.specs.declared.status.Status.{Status}
use Rattle.brd_tasks.specs.declared.status.Status.TheVariants.{Dormant, Ready}
use Rattle.brd_tasks.specs.declared.task.TaskSetup.{TaskSetup}
use Rattle.brd_tasks.specs.declared.task.Request.{Request}
use Rattle.brd_tasks.specs.declared.task.Request.TheVariants.{Assigned, On}
use Rattle.brd_tasks.specs.declared.task.Task.{Task}
use Rattle.brd_tasks.specs.declared.task.TaskView.{TaskView}
use Rattle.brd_tasks.specs.Status.{state_of, waiting_of, is_dormant, is_ready, released}

-- Tasks and contexts are found by the task's ID, ready lists by the processor's number; nothing stands at 0.
pub record TaskTable : Type 0 where
  pub rows : List (Option Task)  -- 256 of them
  pub contexts : List State  -- one for each ID up to the highest that a task has
  pub ready : List (List Plain)  -- 9 of them: the ready tasks of each processor, in the order in which they run

-- the task of an ID, where there is one
abbrev pub task_at : TaskTable → ℕ → Option Task
task_at t id = slice_index_or t.rows id None

-- of each ID, whether there is a task: no operation changes that
abbrev pub are_there : TaskTable → List Bool
are_there t = map is_some t.rows

-- any context: of IDs that are no task's
unfoldable pub no_context : State
no_context = opening 0 0 0

-- the context of the task of an ID
abbrev pub context_at : TaskTable → ℕ → State
context_at t id = slice_index_or t.contexts id no_context

-- the ready tasks of a processor
abbrev pub ready_on : TaskTable → ℕ → List Plain
ready_on t cpu = slice_index_or t.ready cpu []

-- One task.

-- before its first start
abbrev pub unstarted : TaskSetup → Task
unstarted setup = record {
  setup = setup;
  status = Dormant;
  priority = setup.priority;
  base = setup.priority;
  cpu = setup.cpu;
  activation = None;
  wakeup = false;
}

-- the context with which a task starts
abbrev pub opening_of : TaskSetup → State
opening_of setup = opening setup.address setup.exinf setup.sp

-- a task that starts on a processor: with its first priority, and nothing queued
abbrev pub started : ℕ → Task → Task
started cpu task = record {
  setup = task.setup;
  status = Ready;
  priority = task.setup.priority;
  base = task.setup.priority;
  cpu = cpu;
  activation = None;
  wakeup = false;
}

-- the processor on which a request starts a task
abbrev pub processor_of : Request → Task → ℕ
processor_of Assigned task = task.cpu
processor_of (On cpu) task = cpu

-- The table.

-- the task of an ID, and its context, before its first start
abbrev pub first_row : List TaskSetup → ℕ → Option Task
first_row setups id = option_map unstarted (find (λ setup. setup.id == id) setups)

abbrev pub first_context : List TaskSetup → ℕ → State
first_context setups id = unwrap_or (option_map opening_of (find (λ setup. setup.id == id) setups)) no_context

-- those of the IDs below a number
unfoldable pub first_rows : List TaskSetup → ℕ → List (Option Task)
first_rows setups count = map (first_row setups) (range_with_len 0 count)

unfoldable pub first_contexts : List TaskSetup → ℕ → List State
first_contexts setups count = map (first_context setups) (range_with_len 0 count)

-- how many IDs there are up to the highest of some setups, with 0
abbrev pub ids_of : List TaskSetup → ℕ
ids_of [] = 0
ids_of (setup ∷ setups) = max (setup.id + 1) (ids_of setups)

-- the tasks at the making: none has been started
abbrev pub made : List TaskSetup → TaskTable
made setups = record {
  rows = first_rows setups 256;
  contexts = first_contexts setups (ids_of setups);
  ready = replicate 9 [];
}

-- the ready lists without a task that was ready
abbrev pub left : ℕ → Option Task → List (List Plain) → List (List Plain)
left id None ready = ready
left id (Some task) ready =
    if is_ready task.status then slice_set ready task.cpu (without id (slice_index_or ready task.cpu [])) else ready

-- the ready lists with a task that is ready, after its equals
abbrev pub entered : ℕ → Task → List (List Plain) → List (List Plain)
entered id task ready =
    if is_ready task.status
    then slice_set ready task.cpu
    (behind_equals (record { id = id; priority = task.priority; wanted = tt }) (slice_index_or ready task.cpu []))
    else ready

-- A task is written anew: it leaves the ready list in which it was, and where it is ready comes after its equals on
-- its processor.
abbrev pub placed : TaskTable → ℕ → Task → TaskTable
placed t id task =
    record t { rows = slice_set t.rows id (Some task); ready = entered id task (left id (task_at t id) t.ready) }

-- a task is written anew, and the ready lists stay
abbrev pub patched : TaskTable → ℕ → Task → TaskTable
patched t id task = record t { rows = slice_set t.rows id (Some task) }

abbrev pub with_context : TaskTable → ℕ → State → TaskTable
with_context t id context = record t { contexts = slice_set t.contexts id context }

-- What the operations make of a table. Nothing happens where there is no task of the ID, nor by a transition that
-- doesn't apply to the task's state. `turned` names no task; `with_context` is asked for only of one that is there.

-- what is made of the task of a row, if there is one
abbrev pub where_there : TaskTable → Option Task → (Task → TaskTable) → TaskTable
where_there t None change = t
where_there t (Some task) change = change task

-- a task starts on a processor
abbrev pub starts : TaskTable → ℕ → ℕ → Task → TaskTable
starts t id cpu task = with_context (placed t id (started cpu task)) id (opening_of task.setup)

-- a dormant task starts by a request; any other keeps it until it ends, in the place of one that it has kept before
abbrev pub activated : TaskTable → ℕ → Request → TaskTable
activated t id request = where_there t (task_at t id) (λ task.
    if is_dormant task.status then starts t id (processor_of request task) task
    else patched t id (record task { activation = Some request }))

abbrev pub ended_by : TaskTable → ℕ → Task → Option Request → TaskTable
ended_by t id task None = placed t id (record task { status = Dormant; wakeup = false })
ended_by t id task (Some request) = starts t id (processor_of request task) task

-- a task ends: it starts again by a queued request, else it is dormant and keeps its context, priority and processor
abbrev pub ended : TaskTable → ℕ → TaskTable
ended t id = where_there t (task_at t id) (λ task. ended_by t id task task.activation)

abbrev pub put_into : TaskTable → ℕ → Task → Option Status → TaskTable
put_into t id task None = t
put_into t id task (Some status) = placed t id (record task { status = status })

-- a task goes through a transition of its state
abbrev pub through : (Status → Option Status) → TaskTable → ℕ → TaskTable
through transition t id = where_there t (task_at t id) (λ task. put_into t id task (transition task.status))

-- A service call's answer: $v0, and $v1 where the call has a second result.
abbrev pub answered : State → ℕ → Option ℕ → State
answered s answer None = write s 2 answer
answered s answer (Some second) = write (write s 2 answer) 3 second

abbrev pub released_to : TaskTable → ℕ → ℕ → Option ℕ → Task → Option Status → TaskTable
released_to t id answer second task None = t
released_to t id answer second task (Some status) =
    with_context (placed t id (record task { status = status })) id (answered (context_at t id) answer second)

-- the wait of a task ends, and its service call is answered
abbrev pub released_with : TaskTable → ℕ → ℕ → Option ℕ → TaskTable
released_with t id answer second =
    where_there t (task_at t id) (λ task. released_to t id answer second task (released task.status))

-- a task is given another priority or processor; one that is ready comes after its equals, also where nothing has
-- changed
abbrev pub changed : (Task → Task) → TaskTable → ℕ → TaskTable
changed change t id = where_there t (task_at t id) (λ task. placed t id (change task))

abbrev pub with_priority : ℕ → Task → Task
with_priority priority task = record task { priority = priority; base = priority }

-- it is lifted to a priority, or comes down to its own
abbrev pub lifted_to : ℕ → Task → Task
lifted_to priority task = record task { priority = priority }

abbrev pub on_processor : ℕ → Task → Task
on_processor cpu task = record task { cpu = cpu }

-- a request or a wake-up of a task is queued, or taken back; it stays where it is
abbrev pub noted : (Task → Task) → TaskTable → ℕ → TaskTable
noted note t id = where_there t (task_at t id) (λ task. patched t id (note task))

-- a dormant task has no queued wake-up
abbrev pub with_wakeup : Bool → Task → Task
with_wakeup queued task = record task { wakeup = queued && not (is_dormant task.status) }

abbrev pub without_activation : Task → Task
without_activation task = record task { activation = None }

-- the first ready task of a priority on a processor goes after its equals
abbrev pub turned : TaskTable → ℕ → ℕ → TaskTable
turned t cpu priority = record t { ready = slice_set t.ready cpu (rotated priority (ready_on t cpu)) }

-- What is seen of a table.

-- the first of a ready list
abbrev pub first_id : List Plain → Option ℕ
first_id ready = option_map (λ entry. entry.id) (first_of ready)

-- the ready task of a processor that runs next
abbrev pub top_of : TaskTable → ℕ → Option ℕ
top_of t cpu = first_id (ready_on t cpu)

abbrev pub activations_of : Option Request → ℕ
activations_of None = 0
activations_of (Some request) = 1

abbrev pub wakeups_of : Bool → ℕ
wakeups_of queued = if queued then 1 else 0

-- A task as it stands. When its wait ends isn't known here.
abbrev pub shown : State → Task → TaskView
shown context task = record {
  state = state_of task.status;
  priority = task.priority;
  cpu = task.cpu;
  waiting = waiting_of task.status;
  due = None;
  activations = activations_of task.activation;
  wakeups = wakeups_of task.wakeup;
  context = context;
}

abbrev pub view_of : TaskTable → ℕ → Option TaskView
view_of t id = option_map (shown (context_at t id)) (task_at t id)

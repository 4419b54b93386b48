-- What is always true of the tasks.
use Rattle.std.specs.Prelude.{◌≡◌, ◌<◌, ◌≤◌, ℕ, ◌==◌, true, false, ◌&&◌, if◌then◌else◌, Option, None, Some, IsSome, length}
use Rattle.brd_queue.specs.Queue.{priority_in}
use Rattle.brd_queue.specs.Rule.{IsByPriority}
use Rattle.brd_tasks.specs.declared.task.Request.{Request}
use Rattle.brd_tasks.specs.declared.task.Request.TheVariants.{Assigned, On}
use Rattle.brd_tasks.specs.declared.task.TaskSetup.{TaskSetup}
use Rattle.brd_tasks.specs.declared.task.Task.{Task}
use Rattle.brd_tasks.specs.Status.{is_dormant, is_ready}
use Rattle.brd_tasks.specs.Tasks.{TaskTable, task_at, ready_on}

-- one of the numbers that processors have
abbrev pub IsProcessor : ℕ → Type 0
IsProcessor cpu = (1 ≤ cpu) × (cpu ≤ 8)

abbrev pub IsRequest : Request → Type 0
IsRequest Assigned = Unit {0}
IsRequest (On cpu) = IsProcessor cpu

abbrev pub IsQueued : Option Request → Type 0
IsQueued None = Unit {0}
IsQueued (Some request) = IsRequest request

-- A task is on a processor, and so it is after its next start. A dormant one has nothing queued.
pub record IsTask (task : Task) : Type 0 where
  pub processor : IsProcessor task.cpu
  pub queued : IsQueued task.activation
  pub idle : is_dormant task.status ≡ true → (task.activation ≡ None) × (task.wakeup ≡ false)

abbrev pub IsRow : Option Task → Type 0
IsRow None = Unit {0}
IsRow (Some task) = IsTask task

-- what a task is made of: a number from 1 to 255, and a processor
abbrev pub IsSetup : TaskSetup → Type 0
IsSetup setup = (1 ≤ setup.id) × (setup.id ≤ 255) × IsProcessor setup.cpu

-- the priority with which a task should stand in the ready list of a processor, if it should
abbrev pub ready_priority : Option Task → ℕ → Option ℕ
ready_priority None cpu = None
ready_priority (Some task) cpu = if is_ready task.status && task.cpu == cpu then Some task.priority else None

-- A task is in the ready list of its processor exactly where it is ready, with its priority, and in no other; that it
-- stands there once is kept by each queue. The ready lists are in the order of priority. There is no task 0. Each task
-- has a context.
pub record IsConsistent (t : TaskTable) : Type 0 where
  pub rows : length t.rows ≡ 256
  pub contexts : (id : ℕ) → IsSome (task_at t id) → id < length t.contexts
  pub lists : length t.ready ≡ 9
  pub nobody : task_at t 0 ≡ None
  pub each : (id : ℕ) → IsRow (task_at t id)
  pub listed : (id cpu : ℕ) → priority_in id (ready_on t cpu) ≡ ready_priority (task_at t id) cpu
  pub ordered : (cpu : ℕ) → IsByPriority (ready_on t cpu)

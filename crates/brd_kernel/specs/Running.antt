-- Who runs: the running task of each processor is ready there, after every event.
use Rattle.std.specs.Prelude.{◌≡◌, ℕ, ◌==◌, Bool, true, false, ◌&&◌, Option, None, Some, length}
use Rattle.brd_queue.specs.Queue.{has, AreApart}
use Rattle.brd_tasks.specs.declared.task.Task.{Task}
use Rattle.brd_tasks.specs.Status.{is_ready}
use Rattle.brd_tasks.specs.Tasks.{TaskTable, task_at, ready_on}
use Rattle.brd_tasks.specs.Ready.{IsConsistent}
use Rattle.brd_kernel.specs.Kernel.{KernelState, processor_at, running_on}

-- a task is ready, and assigned to a processor
abbrev pub is_ready_on : Option Task → ℕ → Bool
is_ready_on None cpu = false
is_ready_on (Some task) cpu = is_ready task.status && task.cpu == cpu

-- The running task of each processor is ready and assigned to that processor, also where the processor is held: while
-- it handles an interrupt, is CPU-locked, has dispatching disabled or is stopped.
abbrev pub RunsReady : KernelState → Type 0
RunsReady k = (cpu id : ℕ) → running_on k cpu ≡ Some id → is_ready_on (task_at k.tasks id) cpu ≡ true

-- Each task is in the ready list of its processor exactly where it is ready, with its priority, and in no other; it
-- stands there once.
pub record IsOrderly (t : TaskTable) : Type 0 where
  pub consistent : IsConsistent t
  pub once : (cpu : ℕ) → AreApart (ready_on t cpu)

-- What holds between two events: processors have the numbers from 1 to 8, the ready lists are in order, and who runs is
-- ready.
pub record IsRunning (k : KernelState) : Type 0 where
  pub processors : length k.processors ≡ 9
  pub nobody : processor_at k 0 ≡ None
  pub tasks : IsOrderly k.tasks
  pub ready : RunsReady k

-- A task that runs on a processor stands in the ready list of that processor, and in no other, and runs on no other.
pub record RunsOnce (k : KernelState) (cpu id : ℕ) : Type 0 where
  pub listed : has id (ready_on k.tasks cpu) ≡ true
  pub only : (other : ℕ) → has id (ready_on k.tasks other) ≡ true → other ≡ cpu
  pub alone : (other : ℕ) → running_on k other ≡ Some id → other ≡ cpu

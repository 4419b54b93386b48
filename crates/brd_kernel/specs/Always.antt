-- What is always true of the kernel's parts.
use Rattle.std.specs.Prelude.{◌≡◌, ◌<◌, ◌≤◌, ℕ, Bool, false, true, ◌&&◌, List, [], ◌∷◌, All, Option, None, Some, IsSome}
use Rattle.std.specs.Prelude.{length, slice_index_or}
use Rattle.brd_tasks.specs.Tasks.{task_at, are_there}
use Rattle.brd_kernel.specs.declared.processor.InterruptLine.{InterruptLine}
use Rattle.brd_kernel.specs.declared.processor.Executor.{Executor}
use Rattle.brd_kernel.specs.declared.processor.Executor.TheVariants as executor
use Rattle.brd_kernel.specs.declared.processor.Processor.{Processor}
use Rattle.brd_kernel.specs.Kernel.{KernelState, processor_at, running_in, executor_in, line_count}
use Rattle.brd_kernel.specs.Services.{console_size}

abbrev pub IsIdOrNone : Option ℕ → Type 0
IsIdOrNone None = Unit {0}
IsIdOrNone (Some id) = id < 256

-- Of which IDs there are tasks, as `are_there` says it: nobody, or a task that is there.
abbrev pub is_task_or_none : List Bool → Option ℕ → Bool
is_task_or_none there None = true
is_task_or_none there (Some id) = slice_index_or there id false

-- each of these processors runs a task that is there, or nobody
abbrev pub run_tasks : List Bool → List (Option Processor) → Bool
run_tasks there [] = true
run_tasks there (p ∷ ps) = is_task_or_none there (running_in p) && run_tasks there ps

-- who executes has a context: the handler of a processor, or a task that is there
abbrev pub HasContext : KernelState → ℕ → Executor → Type 0
HasContext k cpu executor.Handler = cpu < 9
HasContext k cpu (executor.Task id) = IsSome (task_at k.tasks id)

-- the context of who executes lies in the kernel
abbrev pub HasPlace : KernelState → ℕ → Executor → Type 0
HasPlace k cpu executor.Handler = cpu < length k.handler_contexts
HasPlace k cpu (executor.Task id) = id < length k.tasks.contexts

-- how many processors, handler contexts and lines there are, how much the console holds, that there is no processor 0,
-- and that whoever runs is a task that is there
pub record IsKernel (k : KernelState) : Type 0 where
  pub processors : length k.processors ≡ 9
  pub handler_contexts : length k.handler_contexts ≡ 9
  pub lines : length k.lines ≡ line_count k.standard
  pub console : length k.console ≤ console_size
  pub nobody : processor_at k 0 ≡ None
  pub running : run_tasks (are_there k.tasks) k.processors ≡ true

-- the task that executes, if one does

abbrev pub task_of : Option Executor → Option ℕ
task_of None = None
task_of (Some executor.Handler) = None
task_of (Some (executor.Task id)) = Some id

abbrev pub task_executing : Option Processor → Option ℕ
task_executing p = task_of (executor_in p)

-- no line is pending
abbrev pub AreQuiet : List InterruptLine → Type 0
AreQuiet lines = All (λ line. line.pending ≡ false) lines

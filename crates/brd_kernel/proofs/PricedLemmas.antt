-- A task that is given a priority, by chg_pri or by mutexes: its base priority is another one, or stays.
use Rattle.std.proofs.Common.{ℕ}
use Rattle.std.specs.Prelude.{Option}
use Rattle.brd_tasks.specs.declared.status.WaitReason.{WaitReason}
use Rattle.brd_tasks.specs.declared.task.Task.{Task}
use Rattle.brd_tasks.specs.Tasks.{changed}
use Rattle.brd_kernel.specs.Kernel.{KernelState, with_tasks}
use Rattle.brd_kernel.specs.Waits.{reordered_in}

abbrev pub priced : (Task → ℕ) → ℕ → Task → Task
priced base priority task = record task { priority = priority; base = base task }

-- it has its place by that
abbrev pub priced_in : KernelState → (Task → ℕ) → ℕ → ℕ → Option WaitReason → KernelState
priced_in k base id priority why =
    reordered_in (with_tasks k (changed (priced base priority) k.tasks id)) id priority why

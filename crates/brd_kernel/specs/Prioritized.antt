-- The current priorities of tasks, which are those of the mutexes' rule after every event of a kernel with the profile.
use Rattle.std.specs.Prelude.{◌≡◌, ◌<◌, ℕ, true, Some}
use Rattle.brd_tasks.specs.declared.task.Task.{Task}
use Rattle.brd_tasks.specs.Tasks.{task_at}
use Rattle.brd_mutexes.specs.Lifting.{priority_at}
use Rattle.brd_kernel.specs.Kernel.{KernelState}
use Rattle.brd_kernel.specs.Waits.{priorities_of}

-- each task has the priority that it is to have: the highest of its own, which is its base priority or the ceiling of a
-- mutex with TA_CEILING that it has, and of those of the tasks that wait for the mutexes with TA_INHERIT that it has
abbrev pub HaveTheirPriorities : KernelState → Type 0
HaveTheirPriorities k =
    (id : ℕ) (task : Task) → id < 256 → task_at k.tasks id ≡ Some task →
    task.priority ≡ priority_at (priorities_of k) id

-- in a kernel with the profile
abbrev pub IsPrioritized : KernelState → Type 0
IsPrioritized k = k.standard ≡ true → HaveTheirPriorities k

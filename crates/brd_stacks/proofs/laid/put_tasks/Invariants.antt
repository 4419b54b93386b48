-- The stacks so far, with those of the tasks that are left, are all.
use Rattle.std.proofs.Common.{◌≡◌, ◌++◌, drop}
use Rattle.brd_stacks.specs.Laid.{task_stacks}
use Rattle.brd_stacks.proofs.laid.put_tasks.Given as goal

abbrev pub invariant-loop-task : goal.invariant-loop-task
invariant-loop-task l =
    l.fn.stacks ++ task_stacks l.symbols l.end l.tasks ≡ l.stacks ++ task_stacks l.symbols l.free (drop l.task-index l.tasks)

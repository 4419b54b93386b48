-- Starting the tasks that are left gives what starting all of them gives.
use Rattle.std.proofs.Common.{◌≡◌, drop}
use Rattle.brd_kernel.specs.Kernel.{with_tasks}
use Rattle.brd_board.specs.Setup.{all_started}
use Rattle.brd_board.proofs.setup.start_all.Given as goal

abbrev pub invariant-loop-task : goal.invariant-loop-task
invariant-loop-task l = with_tasks l.kernel (all_started l.kernel.tasks (drop l.task-index l.tasks)) ≡ with_tasks l.fn.kernel (all_started l.fn.kernel.tasks l.tasks)

-- What is left below the stacks of the tasks that are left is what is left below those of all.
use Rattle.std.proofs.Common.{◌≡◌, ◌+◌, drop}
use Rattle.brd_base.specs.Space.{base}
use Rattle.brd_mem.specs.Memory.{size_of}
use Rattle.brd_board.specs.Setup.{below_stacks}
use Rattle.brd_board.proofs.pools.below_stacks.Given as goal

abbrev pub invariant-loop-task : goal.invariant-loop-task
invariant-loop-task l = below_stacks l.free (drop l.task-index l.tasks) ≡ below_stacks (base + size_of l.ram) l.tasks

use Rattle.std.proofs.Common.{sym, ◌∙◌}
use Rattle.brd_board.proofs.PoolLemmas.{stacks-on, stacks-end}
use Rattle.brd_board.proofs.pools.below_stacks.Goals as goal

pub loop-task-preserved : goal.loop-task-preserved
loop-task-preserved c = rw c.below_stack-free.ensures (sym (stacks-on _ _ _ c.task-item.result c.loop-task-test.true c.task-item.is) ∙ c.loop-task.invariant)

pub returns : goal.returns
returns c = sym (stacks-end _ _ _ c.loop-task-test.false) ∙ c.loop-task.invariant

use Rattle.std.proofs.Common.{arith}
use Rattle.brd_stacks.proofs.LaidLemmas.{tasks-on}
use Rattle.brd_stacks.proofs.laid.put_tasks.Goals as goal

pub loop-task-preserved : goal.loop-task-preserved
loop-task-preserved c = tasks-on c.args.symbols.now c.loop-task.free _ c.args.tasks.now c.loop-task.task-index c.task-item.result _ c.loop-task.stacks _
    (omega (arith, c.loop-task-test.true)) c.task-item.is c.in_ok-free.ensures.put c.in_ok-free.ensures.next c.loop-task.invariant

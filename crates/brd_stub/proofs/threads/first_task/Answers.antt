use Rattle.brd_stub.specs.Threads.{first_task}
use Rattle.brd_stub.proofs.PointLemmas.{task-here, task-on}
use Rattle.brd_stub.proofs.threads.first_task.Goals as goal

pub returns-then-is_some : goal.returns-then-is_some
returns-then-is_some c =
    task-here c.args.board.now c.loop-id.id c.task.result c.is_some.result (first_task c.args.board.now)
    c.loop-id-test.true c.task.ensures c.is_some.ensures c.if-is_some.true c.loop-id.invariant

pub loop-id-preserved : goal.loop-id-preserved
loop-id-preserved c =
    task-on c.args.board.now c.loop-id.id c.task.result c.is_some.result (first_task c.args.board.now)
    c.loop-id-test.true c.task.ensures c.is_some.ensures c.if-is_some.false c.loop-id.invariant

use Rattle.brd_try.proofs.ToldLemmas.{next_line}
use Rattle.brd_try.proofs.told.put_tasks.Goals as goal

pub loop-before-preserved : goal.loop-before-preserved
loop-before-preserved c =
    next_line c.args.tasks c.args.board.now c.loop-before.before c.args.out.now.items c.loop-before.out.items _
    c.task.result c.loop-before.invariant c.in_ok-put_task.ensures c.task.ensures

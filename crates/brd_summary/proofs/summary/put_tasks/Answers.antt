use Rattle.brd_summary.proofs.SummaryLemmas.{tasks-on}
use Rattle.brd_summary.proofs.summary.put_tasks.Goals as goal

pub loop-i-preserved : goal.loop-i-preserved
loop-i-preserved c =
    tasks-on c.args.names c.args.tracer.now.notes.tasks.items c.as_slice-tasks.result.now c.loop-i.i c.args.out.now.items c.loop-i.out.items
    c.put_task.new.out.items _ c.as_slice-tasks.ensures.value c.loop-i-test.true c.loop-i.invariant c.in_ok-put_task.ensures

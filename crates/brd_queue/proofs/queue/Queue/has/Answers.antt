use Rattle.brd_queue.proofs.StepLemmas.{has_goes_on}
use Rattle.brd_queue.proofs.queue.Queue.has.Goals as goal

pub loop-entry-preserved : goal.loop-entry-preserved
loop-entry-preserved g c =
    has_goes_on c.args.id c.as_slice-entry-items.result.now c.loop-entry.entry-index c.entry-item.result c.loop-entry-test.true c.entry-item.is c.if-entry-id.false c.loop-entry.invariant

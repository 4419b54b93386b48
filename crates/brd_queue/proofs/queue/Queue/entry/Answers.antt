use Rattle.brd_queue.proofs.QueueLemmas.{small-found-as}
use Rattle.brd_queue.proofs.queue.Queue.entry.Goals as goal

pub returns-clause-small : goal.returns-clause-small
returns-clause-small g c = small-found-as _ _ _ _ c.self.invariant.0 c.as_slice.ensures.value c.entry_of.ensures

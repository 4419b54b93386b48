use Rattle.brd_queue.proofs.QueueLemmas.{apart-renumbered-as}
use Rattle.brd_queue.proofs.queue.Queue.renumber.Goals as goal

pub invariant_of-self : goal.invariant_of-self
invariant_of-self g c = (apart-renumbered-as c.args.id c.args.priority _ _ _ c.renumber.new.entries c.self.invariant.0 c.as_mut_slice.ensures.value c.as_mut_slice.ensures.len c.renumber.ensures, c.self.invariant.1)

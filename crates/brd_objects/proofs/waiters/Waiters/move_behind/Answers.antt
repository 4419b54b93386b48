use Rattle.brd_objects.proofs.BitLemmas.{bits-found-as}
use Rattle.brd_objects.proofs.waiters.Waiters.move_behind.Goals as goal

pub place-requires-clause-bits : goal.place-requires-clause-bits
place-requires-clause-bits c = bits-found-as _ c.self.inside.queue c.entry.result c.in-Some.entry c.self.invariant.1 c.entry.ensures.is c.in-Some.is

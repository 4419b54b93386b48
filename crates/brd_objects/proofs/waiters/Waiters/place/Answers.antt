use Rattle.std.proofs.Common.{arith}
use Rattle.brd_objects.proofs.BitLemmas.{bits-entered-as}
use Rattle.brd_objects.proofs.ColumnLemmas.{columns-entered}
use Rattle.brd_objects.proofs.waiters.Waiters.place.Goals as goal

pub invariant_of-self : goal.invariant_of-self
invariant_of-self c = (
  columns-entered _ _ _ _ _ _ c.enter-at.result c.args.entry _ c.self.invariant.0 c.enter-at.ensures.place c.insert_within.ensures.is c.word.ensures c.insert_within-2.ensures.is,
  bits-entered-as c.args.order c.args.entry _ _ c.requires.bits c.self.invariant.1 c.enter-at.ensures.is,
  omega (arith, c.insert_within.ensures.kept, c.self.invariant.2),
  omega (arith, c.insert_within-2.ensures.kept, c.self.invariant.3),
)

use Rattle.std.proofs.Common.{arith}
use Rattle.brd_objects.proofs.BitLemmas.{bits-remove-as}
use Rattle.brd_objects.proofs.ColumnLemmas.{columns-left}
use Rattle.brd_objects.proofs.waiters.Waiters.take.Goals as goal

pub invariant_of-self : goal.invariant_of-self
invariant_of-self c = (
  columns-left _ _ _ _ _ _ c.args.at c.self.invariant.0 c.take.ensures.is c.remove.ensures.items c.remove-2.ensures.items,
  bits-remove-as c.args.at _ _ c.self.invariant.1 c.take.ensures.is,
  omega (arith, c.remove.ensures.capacity, c.self.invariant.2),
  omega (arith, c.remove-2.ensures.capacity, c.self.invariant.3),
)

use Rattle.std.proofs.Common.{arith}
use Rattle.brd_objects.proofs.BitLemmas.{bits-without-as}
use Rattle.brd_objects.proofs.ColumnLemmas.{columns-left, columns-same}
use Rattle.brd_objects.proofs.waiters.Waiters.leave.Goals as goal

pub invariant_of-self : goal.invariant_of-self
invariant_of-self c = (
  columns-left _ _ _ _ _ _ c.in-Some.at c.self.invariant.0 c.in-Some.ensures.place.1 c.remove.ensures.items c.remove-in-Some.ensures.items,
  bits-without-as c.args.id _ _ c.self.invariant.1 c.leave.ensures.is,
  omega (arith, c.remove.ensures.capacity, c.self.invariant.2),
  omega (arith, c.remove-in-Some.ensures.capacity, c.self.invariant.3),
)

pub invariant_of-self-in_default : goal.invariant_of-self-in_default
invariant_of-self-in_default c =
    (columns-same _ _ _ _ c.self.invariant.0 c.in_default.ensures.stays, bits-without-as c.args.id _ _ c.self.invariant.1 c.leave.ensures.is, c.self.invariant.2, c.self.invariant.3)

use Rattle.brd_objects.proofs.BitLemmas.{bits-renumbered-as}
use Rattle.brd_objects.proofs.ColumnLemmas.{columns-renumbered}
use Rattle.brd_objects.proofs.waiters.Waiters.reorder.Goals as goal

pub invariant_of-self : goal.invariant_of-self
invariant_of-self c = (
  columns-renumbered c.args.id c.args.priority _ _ _ _ c.self.invariant.0 c.reorder.ensures,
  bits-renumbered-as c.args.id c.args.priority _ _ c.self.invariant.1 c.reorder.ensures,
  c.self.invariant.2,
  c.self.invariant.3,
)

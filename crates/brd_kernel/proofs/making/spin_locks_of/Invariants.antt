use Rattle.std.proofs.Common.{◌≡◌}
use Rattle.brd_kernel.specs.Making.{made_spin_locks}
use Rattle.brd_kernel.proofs.making.spin_locks_of.Given as goal

abbrev pub invariant-loop-id : goal.invariant-loop-id
invariant-loop-id l = l.made.items ≡ made_spin_locks l.configs l.id

use Rattle.std.proofs.Common.{◌≡◌}
use Rattle.brd_objects.specs.Table.{made_below}
use Rattle.brd_objects.proofs.objects.rows_of.Given as goal

abbrev pub invariant-loop-id : goal.invariant-loop-id
invariant-loop-id g l = l.rows.items ≡ made_below g.T.Object.id_of g.T.Object.made_of l.configs l.id

use Rattle.std.proofs.Common.{◌≡◌}
use Rattle.brd_tasks.specs.Tasks.{first_rows}
use Rattle.brd_tasks.proofs.making.rows_of.Given as goal

abbrev pub invariant-loop-id : goal.invariant-loop-id
invariant-loop-id l = l.rows.items ≡ first_rows l.setups l.id

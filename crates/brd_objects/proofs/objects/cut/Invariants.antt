-- The table is the same.
use Rattle.std.proofs.Common.{◌≡◌, ◌≤◌, length}
use Rattle.brd_objects.specs.Rows.{table_of}
use Rattle.brd_objects.proofs.objects.cut.Given as goal

abbrev pub invariant-loop : goal.invariant-loop
invariant-loop g l = (length l.rows.items ≤ 256) × (table_of l.rows.items ≡ table_of l.fn.rows.items)

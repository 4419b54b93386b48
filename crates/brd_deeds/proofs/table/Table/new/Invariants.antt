use Rattle.std.proofs.Common.{◌≡◌, replicate}
use Rattle.brd_deeds.proofs.table.Table.new.Given as goal

abbrev pub invariant-loop : goal.invariant-loop
invariant-loop g l = l.items.items ≡ replicate l.counter l.fn.item

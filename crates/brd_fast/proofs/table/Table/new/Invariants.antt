-- Each entry is right, in either order.
use Rattle.std.proofs.Common.{All}
use Rattle.brd_word.specs.declared.order.Order.{Order}
use Rattle.brd_fast.specs.Known.{IsRight}
use Rattle.brd_fast.proofs.table.Table.new.Given as goal

abbrev pub invariant-loop : goal.invariant-loop
invariant-loop l = (order : Order) → All (IsRight order) l.known.items

use Rattle.std.proofs.Common.{◌≡◌, ℕ, [], length}
use Rattle.std.specs.List.{slice_get}
use Rattle.brd_order.specs.Tables.{marks_if}
use Rattle.brd_order.proofs.marks.Marks.new.Given as goal

abbrev pub invariant-loop : goal.invariant-loop
invariant-loop l = record {
  none : (i : ℕ) → marks_if (slice_get l.shares.items i) ≡ [];
  len : length l.shares.items ≡ l.counter;
}

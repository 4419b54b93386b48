use Rattle.std.proofs.Common.{◌≡◌, ℕ, length}
use Rattle.brd_order.specs.Tables.{counts_at}
use Rattle.brd_order.proofs.strands.Strands.extend.Given as goal

abbrev pub invariant-loop : goal.invariant-loop
invariant-loop l = record {
  same : (other t : ℕ) → counts_at l.self.clocks.items other t ≡ counts_at l.fn.self.clocks.items other t;
  len : length l.self.clocks.items ≡ l.counter;
}

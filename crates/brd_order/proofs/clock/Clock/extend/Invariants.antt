use Rattle.std.proofs.Common.{◌≡◌, ℕ, length}
use Rattle.brd_order.specs.Clocks.{count_in}
use Rattle.brd_order.proofs.clock.Clock.extend.Given as goal

abbrev pub invariant-loop : goal.invariant-loop
invariant-loop l = record {
  same : (strand : ℕ) → count_in l.self.counts.items strand ≡ count_in l.fn.self.counts.items strand;
  len : length l.self.counts.items ≡ l.counter;
}

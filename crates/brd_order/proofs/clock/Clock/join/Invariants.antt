use Rattle.std.proofs.Common.{◌≡◌, ◌≤◌, ◌<◌, ℕ, length}
use Rattle.brd_order.specs.Clocks.{count_in, IsGreater}
use Rattle.brd_order.proofs.clock.Clock.join.Given as goal

abbrev pub invariant-loop-strand : goal.invariant-loop-strand
invariant-loop-strand l = record {
  below : (k : ℕ) → k < l.strand → IsGreater (count_in l.fn.self.counts.items k) (count_in l.other.counts.items k)
      (count_in l.self.counts.items k);
  rest : (k : ℕ) → l.strand ≤ k → count_in l.self.counts.items k ≡ count_in l.fn.self.counts.items k;
  len : length l.other.counts.items ≤ length l.self.counts.items;
}

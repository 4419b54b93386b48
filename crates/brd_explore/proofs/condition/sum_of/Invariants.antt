-- The sum so far and that of the terms that are left are the whole; it isn't too large.
use Rattle.std.specs.Prelude.{◌≡◌, ◌≤◌, ◌*◌, Some, drop}
use Rattle.brd_explore.specs.Failures.{plus, sum_of}
use Rattle.brd_explore.proofs.condition.sum_of.Given as goal

abbrev pub invariant-loop-term : goal.invariant-loop-term
invariant-loop-term l = record {
  all : plus (Some l.sum) (sum_of l.board (drop l.term-index l.terms)) ≡ sum_of l.board l.terms;
  small : l.sum ≤ l.term-index * 4294967295;
}

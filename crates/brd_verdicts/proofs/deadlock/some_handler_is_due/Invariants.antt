-- None of those so far is.
use Rattle.std.proofs.Common.{ℕ, ◌<◌, ◌≤◌}
use Rattle.std.specs.Prelude.{◌≢◌, None}
use Rattle.brd_kernel.specs.Kernel.{timer_due}
use Rattle.brd_verdicts.proofs.deadlock.some_handler_is_due.Given as goal

abbrev pub invariant-loop-place : goal.invariant-loop-place
invariant-loop-place l = record {
  most : l.place ≤ 128;
  none : (place : ℕ) → place < l.place → timer_due l.board.kernel place ≢ None → ⊥;
}

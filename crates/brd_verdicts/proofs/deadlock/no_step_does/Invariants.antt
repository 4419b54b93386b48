-- The steps so far have done nothing.
use Rattle.std.proofs.Common.{◌≡◌, ℕ, ◌<◌, ◌≤◌}
use Rattle.std.specs.Prelude.{true}
use Rattle.brd_board.specs.declared.event.Event.TheVariants.{Step}
use Rattle.brd_board.specs.Board.{happens}
use Rattle.brd_journal.specs.Still.{did_nothing}
use Rattle.brd_verdicts.proofs.deadlock.no_step_does.Given as goal

abbrev pub invariant-loop-cpu : goal.invariant-loop-cpu
invariant-loop-cpu l = record {
  least : 1 ≤ l.cpu;
  most : l.cpu ≤ 9;
  same : l.copy ≡ l.board;
  still : (cpu : ℕ) → 1 ≤ cpu → cpu < l.cpu → did_nothing (happens l.board (Step cpu)).report ≡ true;
}

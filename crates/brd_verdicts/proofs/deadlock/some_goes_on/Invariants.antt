-- Of none of the tasks so far is it so.
use Rattle.std.proofs.Common.{ℕ, ◌<◌, ◌≤◌}
use Rattle.brd_board.specs.Board.{task_of}
use Rattle.brd_verdicts.specs.Deadlock.{GoesOn}
use Rattle.brd_verdicts.proofs.deadlock.some_goes_on.Given as goal

abbrev pub invariant-loop-id : goal.invariant-loop-id
invariant-loop-id l = record {
  least : 1 ≤ l.id;
  most : l.id ≤ 256;
  none : (id : ℕ) → 1 ≤ id → id < l.id → GoesOn (task_of l.board id) → ⊥;
}

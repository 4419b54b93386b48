-- None of those so far does.
use Rattle.std.specs.Prelude.{◌≡◌, false}
use Rattle.brd_board.specs.Board.{task_of}
use Rattle.brd_explore.specs.Failures.{some_below, has_due}
use Rattle.brd_explore.proofs.wanted.some_waits_end.Given as goal

abbrev pub invariant-loop-id : goal.invariant-loop-id
invariant-loop-id l = some_below l.id (λ n. has_due (task_of l.board n)) ≡ false

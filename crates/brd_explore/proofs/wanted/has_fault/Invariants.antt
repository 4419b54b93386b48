-- None of those so far does.
use Rattle.std.specs.Prelude.{◌≡◌, false, is_some}
use Rattle.brd_board.specs.Board.{fault_of}
use Rattle.brd_explore.specs.Failures.{some_below}
use Rattle.brd_explore.proofs.wanted.has_fault.Given as goal

abbrev pub invariant-loop-cpu : goal.invariant-loop-cpu
invariant-loop-cpu l = some_below l.cpu (λ n. is_some (fault_of l.board n)) ≡ false

-- None of those so far is there.
use Rattle.std.specs.Prelude.{◌≡◌, false}
use Rattle.brd_board.specs.Board.{registers_of}
use Rattle.brd_explore.specs.Failures.{is_at, some_below}
use Rattle.brd_explore.proofs.wanted.some_are_at.Given as goal

abbrev pub invariant-loop-cpu : goal.invariant-loop-cpu
invariant-loop-cpu l = some_below l.cpu (λ n. is_at l.address (registers_of l.board n)) ≡ false

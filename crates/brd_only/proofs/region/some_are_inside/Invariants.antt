-- Nobody of those so far is inside.
use Rattle.std.specs.Prelude.{◌≡◌, false}
use Rattle.brd_board.specs.Board.{registers_of}
use Rattle.brd_explore.specs.Failures.{some_below}
use Rattle.brd_only.specs.Only.{is_inside}
use Rattle.brd_only.proofs.region.some_are_inside.Given as goal

abbrev pub invariant-loop-cpu : goal.invariant-loop-cpu
invariant-loop-cpu l = some_below l.cpu (λ n. is_inside l.regions (registers_of l.board n)) ≡ false

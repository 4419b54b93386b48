-- No step so far has done anything, so the board is as it was.
use Rattle.std.specs.Prelude.{◌≡◌, false}
use Rattle.brd_board.specs.declared.event.Event.TheVariants.{Step}
use Rattle.brd_explore.specs.Schedules.{does}
use Rattle.brd_explore.specs.Failures.{some_below}
use Rattle.brd_explore.proofs.wanted.somebody_goes.Given as goal

abbrev pub invariant-loop-cpu : goal.invariant-loop-cpu
invariant-loop-cpu l = record {
  board : l.board ≡ l.fn.board;
  none : some_below l.cpu (λ n. does l.fn.board (Step n)) ≡ false;
}

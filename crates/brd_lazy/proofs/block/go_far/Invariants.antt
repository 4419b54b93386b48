-- All instructions so far are invisible.
use Rattle.brd_board.specs.Board.{BoardState}
use Rattle.brd_reach.specs.Rounds.{sharing_for}
use Rattle.brd_lazy.specs.Finding.{HasWalked}
use Rattle.brd_lazy.proofs.block.go_far.Given as goal

abbrev pub invariant-loop : goal.invariant-loop
invariant-loop l =
    (b : BoardState) → HasWalked (sharing_for l.sharing l.wanted) b l.cpu l.count l.fn.board →
    HasWalked (sharing_for l.sharing l.wanted) b l.cpu l.done l.board

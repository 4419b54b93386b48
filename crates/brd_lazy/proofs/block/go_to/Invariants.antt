-- All instructions so far are invisible.
use Rattle.brd_board.specs.Board.{BoardState}
use Rattle.brd_reach.specs.Rounds.{sharing_for}
use Rattle.brd_lazy.specs.Finding.{HasWalked}
use Rattle.brd_lazy.proofs.block.go_to.Given as goal

abbrev pub invariant-loop-at : goal.invariant-loop-at
invariant-loop-at l =
    (b : BoardState) → HasWalked (sharing_for l.sharing l.wanted) b l.cpu l.count l.fn.board →
    HasWalked (sharing_for l.sharing l.wanted) b l.cpu l.at l.board

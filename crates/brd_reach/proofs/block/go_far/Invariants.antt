-- All instructions so far are invisible.
use Rattle.brd_board.specs.Board.{BoardState}
use Rattle.brd_blocks.specs.Stepping.{AllStandWell}
use Rattle.brd_reach.specs.Rounds.{HasWalked, sharing_for}
use Rattle.brd_reach.proofs.block.go_far.Given as goal

abbrev pub invariant-loop : goal.invariant-loop
invariant-loop l =
    (b : BoardState) → AllStandWell b l.cpu → HasWalked (sharing_for l.sharing l.wanted) b l.cpu 1024 l.fn.board →
    HasWalked (sharing_for l.sharing l.wanted) b l.cpu l.count l.board

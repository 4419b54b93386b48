-- All instructions so far are invisible.
use Rattle.brd_link.specs.LinkSet.{IsLinkSet}
use Rattle.brd_reach.specs.Rounds.{sharing_for}
use Rattle.brd_lazy.specs.Finding.{HasWalked}
use Rattle.brd_lazy.proofs.block.go_few.Given as goal

abbrev pub invariant-loop-at : goal.invariant-loop-at
invariant-loop-at l =
    IsLinkSet l.fn.board.links → HasWalked (sharing_for l.sharing l.wanted) l.fn.board l.cpu l.at l.board

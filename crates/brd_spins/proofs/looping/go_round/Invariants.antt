use Rattle.std.proofs.Common.{◌≡◌, ◌+◌, length}
use Rattle.std.specs.Prelude.{Some}
use Rattle.brd_board.specs.Board.{BoardState, registers_of}
use Rattle.brd_spins.specs.Spins.{AreOther, HasGone}
use Rattle.brd_spins.proofs.looping.go_round.Given as goal

abbrev pub invariant-loop-i : goal.invariant-loop-i
invariant-loop-i l = (b : BoardState) → registers_of b l.cpu ≡ Some l.first → HasGone b l.cpu l.fn.states l.fn.board → length l.fn.states ≡ 1 →
    HasGone b l.cpu l.states l.board × (length l.states ≡ l.i + 1) × AreOther b l.cpu (l.i + 1)

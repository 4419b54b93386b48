-- One more event was done, and one fewer is left.
use Rattle.std.proofs.Common.{◌≡◌, ◌+◌, ◌-◌, suc, ap, arith}
use Rattle.brd_board.proofs.board.Board.repeat_in_line.Goals as goal

pub loop-preserved : goal.loop-preserved
loop-preserved c =
    let left : c.args.count - c.loop.counter ≡ suc (c.args.count - (c.loop.counter + 1)) = omega arith in
    rw (ap (λ happened. happened.board) c.event.ensures) (rw left at c.loop.invariant)

use Rattle.std.proofs.Common.{not, ap}
use Rattle.brd_board.proofs.board.Board.commit.Goals as goal

pub carry_over-requires : goal.carry_over-requires
carry_over-requires c = c.is_stale.ensures.0 (ap not c.if-is_stale.false)

use Rattle.brd_board.proofs.OffLemmas.{off-stays, after-off}
use Rattle.brd_board.proofs.laws.an_off_board_stays.Goals as goal

pub returns-clause-event : goal.returns-clause-event
returns-clause-event c = off-stays

pub returns-clause-after : goal.returns-clause-after
returns-clause-after c = after-off

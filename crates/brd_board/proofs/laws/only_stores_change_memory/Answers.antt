use Rattle.brd_board.proofs.StoringLemmas.{same-happens}
use Rattle.brd_board.proofs.laws.only_stores_change_memory.Goals as goal

pub returns : goal.returns
returns c = same-happens

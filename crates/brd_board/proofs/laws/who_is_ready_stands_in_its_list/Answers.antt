use Rattle.brd_board.proofs.RunningLemmas.{boot-lists, boot-once}
use Rattle.brd_board.proofs.laws.who_is_ready_stands_in_its_list.Goals as goal

pub returns-clause-listed : goal.returns-clause-listed
returns-clause-listed c = boot-lists

pub returns-clause-once : goal.returns-clause-once
returns-clause-once c = boot-once

use Rattle.brd_board.proofs.WaitingLemmas.{boot-keeps, happens-keeps}
use Rattle.brd_board.proofs.laws.who_waits_stands_in_its_list.Goals as goal

pub returns-clause-boot : goal.returns-clause-boot
returns-clause-boot c = boot-keeps

pub returns-clause-event : goal.returns-clause-event
returns-clause-event c = happens-keeps

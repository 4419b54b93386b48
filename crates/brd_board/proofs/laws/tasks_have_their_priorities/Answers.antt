use Rattle.brd_board.proofs.PriorityLemmas.{boot-has, happens-has}
use Rattle.brd_board.proofs.laws.tasks_have_their_priorities.Goals as goal

pub returns-clause-boot : goal.returns-clause-boot
returns-clause-boot c = boot-has

pub returns-clause-event : goal.returns-clause-event
returns-clause-event c = happens-has

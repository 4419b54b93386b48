use Rattle.brd_board.proofs.OwnLemmas.{boot-owns, event-owns}
use Rattle.brd_board.proofs.laws.an_instruction_changes_only_its_own.Goals as goal

pub returns-clause-boot : goal.returns-clause-boot
returns-clause-boot c = boot-owns

pub returns-clause-event : goal.returns-clause-event
returns-clause-event c = event-owns

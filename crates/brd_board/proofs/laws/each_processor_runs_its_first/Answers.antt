use Rattle.brd_board.proofs.LawLemmas.{boot-settled, happens-settled}
use Rattle.brd_board.proofs.laws.each_processor_runs_its_first.Goals as goal

pub returns-clause-boot : goal.returns-clause-boot
returns-clause-boot c = boot-settled

pub returns-clause-event : goal.returns-clause-event
returns-clause-event c = happens-settled

use Rattle.brd_board.proofs.SpinLemmas.{happens-locks, boot-locks, boot-goes-on}
use Rattle.brd_board.proofs.laws.a_spin_lock_has_one_holder.Goals as goal

pub returns-clause-boot : goal.returns-clause-boot
returns-clause-boot c = boot-locks

pub returns-clause-event : goal.returns-clause-event
returns-clause-event c = happens-locks

pub returns-clause-goes_on : goal.returns-clause-goes_on
returns-clause-goes_on c = boot-goes-on

use Rattle.brd_link.proofs.LinkLemmas.{is_linked-with_link, is_linked-without, is_linked-without_all, is_linked-after_store}
use Rattle.brd_link.proofs.laws.pairs_after_a_change.Goals as goal

pub returns-clause-set : goal.returns-clause-set
returns-clause-set c = is_linked-with_link

pub returns-clause-ended : goal.returns-clause-ended
returns-clause-ended c = is_linked-without

pub returns-clause-all_ended : goal.returns-clause-all_ended
returns-clause-all_ended c = is_linked-without_all

pub returns-clause-stored : goal.returns-clause-stored
returns-clause-stored c = is_linked-after_store

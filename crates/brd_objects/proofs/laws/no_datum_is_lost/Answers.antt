use Rattle.brd_objects.proofs.LawLemmas.{empty, full, handed, received-first, stored}
use Rattle.brd_objects.proofs.laws.no_datum_is_lost.Goals as goal

pub returns-clause-received : goal.returns-clause-received
returns-clause-received c q r is = received-first q r is

pub returns-clause-empty : goal.returns-clause-empty
returns-clause-empty c q is = empty q is

pub returns-clause-stored : goal.returns-clause-stored
returns-clause-stored c q datum is = stored q datum is

pub returns-clause-handed : goal.returns-clause-handed
returns-clause-handed c q datum id is = handed q datum id is

pub returns-clause-full : goal.returns-clause-full
returns-clause-full c q datum is = full q datum is

use Rattle.brd_stub.proofs.SetLemmas.{none-set, with-set, without-set}
use Rattle.brd_stub.proofs.laws.points_are_set.Goals as goal

pub returns-clause-none : goal.returns-clause-none
returns-clause-none c = none-set

pub returns-clause-more : goal.returns-clause-more
returns-clause-more c = with-set

pub returns-clause-fewer : goal.returns-clause-fewer
returns-clause-fewer c = without-set

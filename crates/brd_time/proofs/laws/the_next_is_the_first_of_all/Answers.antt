use Rattle.brd_time.proofs.TimeLemmas.{due-some, due-none}
use Rattle.brd_time.proofs.laws.the_next_is_the_first_of_all.Goals as goal

pub returns-clause-some : goal.returns-clause-some
returns-clause-some c = due-some

pub returns-clause-none : goal.returns-clause-none
returns-clause-none c = due-none

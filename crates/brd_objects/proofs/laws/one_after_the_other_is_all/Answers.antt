use Rattle.brd_objects.proofs.LawLemmas.{ended, turn}
use Rattle.brd_objects.proofs.laws.one_after_the_other_is_all.Goals as goal

pub returns-clause-some : goal.returns-clause-some
returns-clause-some c f id pattern bits next = turn f id pattern bits next

pub returns-clause-none : goal.returns-clause-none
returns-clause-none c f next = ended f next

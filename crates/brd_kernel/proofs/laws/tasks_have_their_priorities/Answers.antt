use Rattle.brd_kernel.proofs.PriorityLemmas.{rule-is, serve-has, tick-has, fault-has}
use Rattle.brd_kernel.proofs.laws.tasks_have_their_priorities.Goals as goal

pub returns-clause-rule : goal.returns-clause-rule
returns-clause-rule c = rule-is

pub returns-clause-call : goal.returns-clause-call
returns-clause-call c = serve-has

pub returns-clause-tick : goal.returns-clause-tick
returns-clause-tick c = tick-has

pub returns-clause-fault : goal.returns-clause-fault
returns-clause-fault c = fault-has

use Rattle.brd_mutexes.proofs.LiftingLemmas.{below, once}
use Rattle.brd_mutexes.proofs.laws.a_task_has_one_priority.Goals as goal

pub returns-clause-once : goal.returns-clause-once
returns-clause-once c = once

pub returns-clause-highest : goal.returns-clause-highest
returns-clause-highest c = below

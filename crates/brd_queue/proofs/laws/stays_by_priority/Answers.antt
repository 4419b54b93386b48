use Rattle.brd_queue.proofs.RuleLemmas.{ordered-behind_equals, ordered-without}
use Rattle.brd_queue.proofs.laws.stays_by_priority.Goals as goal

pub returns-clause-entered : goal.returns-clause-entered
returns-clause-entered g c entry queue ordered = ordered-behind_equals entry queue ordered

pub returns-clause-left : goal.returns-clause-left
returns-clause-left g c id queue ordered = ordered-without id queue ordered

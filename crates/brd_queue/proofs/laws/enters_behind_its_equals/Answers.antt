use Rattle.brd_queue.proofs.RuleLemmas.{enters, one}
use Rattle.brd_queue.proofs.laws.enters_behind_its_equals.Goals as goal

pub returns-clause-rule : goal.returns-clause-rule
returns-clause-rule g c entry queue ordered = enters entry queue ordered

pub returns-clause-one : goal.returns-clause-one
returns-clause-one g c entry queue new rule = one entry queue new rule

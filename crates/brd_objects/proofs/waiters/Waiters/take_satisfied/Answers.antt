use Rattle.brd_objects.proofs.ColumnLemmas.{IsFirstSatisfied, IsNobodySatisfied, taken-as, nobody-as}
use Rattle.brd_objects.proofs.waiters.Waiters.take_satisfied.Goals as goal

-- what the scan has found
found : (c : goal.After-take) → IsFirstSatisfied c.args.pattern c.args.self.now c.take.new.self c.take.result
found c = taken-as c.args.pattern c.self.inside.queue c.args.self.now c.take.new.self _ _ _ _ c.in-Some.at c.take.result c.self.invariant.0 c.self.view_is c.as_slice.ensures.value c.as_slice-2.ensures.value c.in-Some.ensures c.take.ensures.is c.take.ensures.entry

none : (c : goal.In-None) → IsNobodySatisfied c.args.pattern c.args.self.now
none c = nobody-as c.args.pattern c.self.inside.queue c.args.self.now _ _ _ _ c.self.invariant.0 c.self.view_is c.as_slice.ensures.value c.as_slice-2.ensures.value c.in-None.ensures

pub returns-in-Some-clause-is : goal.returns-in-Some-clause-is
returns-in-Some-clause-is c = (found c).leaves

pub returns-in-Some-clause-who : goal.returns-in-Some-clause-who
returns-in-Some-clause-who c = (found c).first

pub returns-in-None-clause-is : goal.returns-in-None-clause-is
returns-in-None-clause-is c = (none c).stays

pub returns-in-None-clause-who : goal.returns-in-None-clause-who
returns-in-None-clause-who c = (none c).nobody

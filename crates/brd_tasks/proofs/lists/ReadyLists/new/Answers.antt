use Rattle.std.proofs.Common.{ap, ◌∙◌}
use Rattle.brd_tasks.specs.ReadyRings.{lists_of}
use Rattle.brd_tasks.proofs.MarkedLemmas.{marked-new, lists-new}
use Rattle.brd_tasks.proofs.lists.ReadyLists.new.Goals as goal

pub invariant_of-result : goal.invariant_of-result
invariant_of-result c = rw c.in_ok-new.ensures rw c.in_ok-no_marks.ensures marked-new

pub returns : goal.returns
returns c = ap lists_of c.in_ok-new.ensures ∙ lists-new

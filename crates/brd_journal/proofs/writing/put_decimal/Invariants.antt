use Rattle.brd_journal.proofs.DecimalLemmas.{Placed}
use Rattle.brd_journal.proofs.writing.put_decimal.Given as goal

abbrev pub invariant-loop-left : goal.invariant-loop-left
invariant-loop-left l = Placed l.number l.left l.start l.digits

abbrev pub decreases-loop-left : goal.decreases-loop-left
decreases-loop-left l = l.left

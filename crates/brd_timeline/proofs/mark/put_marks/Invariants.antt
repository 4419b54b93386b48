-- What is there goes on what there was.
use Rattle.brd_timeline.specs.Bars.{GoesOn}
use Rattle.brd_timeline.proofs.mark.put_marks.Given as goal

abbrev pub invariant-loop-mark : goal.invariant-loop-mark
invariant-loop-mark l = GoesOn l.fn.to.items l.to.items

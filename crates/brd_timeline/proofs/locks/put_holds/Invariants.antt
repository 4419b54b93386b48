-- What is there goes on what there was.
use Rattle.brd_timeline.specs.Bars.{GoesOn}
use Rattle.brd_timeline.proofs.locks.put_holds.Given as goal

abbrev pub invariant-loop-hold : goal.invariant-loop-hold
invariant-loop-hold l = GoesOn l.fn.to.items l.to.items

-- What is there goes on what there was.
use Rattle.brd_timeline.specs.Bars.{GoesOn}
use Rattle.brd_timeline.proofs.locks.put_spins.Given as goal

abbrev pub invariant-loop-spinning : goal.invariant-loop-spinning
invariant-loop-spinning l = GoesOn l.fn.to.items l.to.items

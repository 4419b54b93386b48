-- What is there goes on what there was.
use Rattle.brd_timeline.specs.Bars.{GoesOn}
use Rattle.brd_timeline.proofs.mutexes.put_names.Given as goal

abbrev pub invariant-loop-place : goal.invariant-loop-place
invariant-loop-place l = GoesOn l.fn.to.items l.to.items

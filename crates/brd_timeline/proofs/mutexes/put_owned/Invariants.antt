-- What is there goes on what there was.
use Rattle.brd_timeline.specs.Bars.{GoesOn}
use Rattle.brd_timeline.proofs.mutexes.put_owned.Given as goal

abbrev pub invariant-loop-owning : goal.invariant-loop-owning
invariant-loop-owning l = GoesOn l.fn.to.items l.to.items

-- What is there goes on what there was.
use Rattle.brd_timeline.specs.Bars.{GoesOn}
use Rattle.brd_timeline.proofs.turns.put_turns.Given as goal

abbrev pub invariant-loop-turn : goal.invariant-loop-turn
invariant-loop-turn l = GoesOn l.fn.to.items l.to.items

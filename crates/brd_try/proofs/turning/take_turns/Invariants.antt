-- The first n events were done, and none of them was left to do.
use Rattle.brd_try.specs.Turning.{IsTurning}
use Rattle.brd_try.proofs.turning.take_turns.Given as goal

abbrev pub invariant-loop-others : goal.invariant-loop-others
invariant-loop-others l = IsTurning l.fn.boot l.tasks l.events l.others l.turned

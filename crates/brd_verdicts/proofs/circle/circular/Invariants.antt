-- Those that are left have the same circles.
use Rattle.std.proofs.Common.{List, length}
use Rattle.brd_verdicts.specs.declared.circle.Wait.{Wait}
use Rattle.brd_verdicts.specs.Circle.{AreCircular}
use Rattle.brd_verdicts.proofs.circle.circular.Given as goal

abbrev pub invariant-loop-left : goal.invariant-loop-left
invariant-loop-left l = record {
  whole : (found : List Wait) → AreCircular l.units l.left found → AreCircular l.units l.fn.waits found;
}

abbrev pub decreases-loop-left : goal.decreases-loop-left
decreases-loop-left l = length l.left

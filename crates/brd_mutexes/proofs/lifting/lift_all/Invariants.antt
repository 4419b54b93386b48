use Rattle.std.proofs.Common.{◌≡◌, length}
use Rattle.brd_mutexes.specs.Lifting.{AreFounded}
use Rattle.brd_mutexes.proofs.PassLemmas.{total}
use Rattle.brd_mutexes.proofs.lifting.lift_all.Given as goal

abbrev pub invariant-passes : goal.invariant-passes
invariant-passes l = AreFounded l.fn.priorities l.holders l.priorities

abbrev pub decreases-passes : goal.decreases-passes
decreases-passes l = total l.priorities

-- what is left says the same as all
use Rattle.std.proofs.Common.{◌≡◌, drop}
use Rattle.brd_stub.specs.Reasons.{changed}
use Rattle.brd_stub.proofs.points.changed.Given as goal

abbrev pub invariant-loop-point : goal.invariant-loop-point
invariant-loop-point l = changed (drop l.point-index l.points) l.before.memory l.after.memory ≡ changed l.points
    l.before.memory l.after.memory

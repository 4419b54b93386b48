-- what is left says the same as all
use Rattle.std.proofs.Common.{◌≡◌, drop}
use Rattle.brd_stub.specs.Points.{is_set}
use Rattle.brd_stub.proofs.points.is_set.Given as goal

abbrev pub invariant-loop-other : goal.invariant-loop-other
invariant-loop-other l = is_set (drop l.other-index l.points) l.point ≡ is_set l.points l.point

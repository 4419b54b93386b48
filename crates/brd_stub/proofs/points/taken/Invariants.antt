-- those that were found and those that are left are all
use Rattle.std.proofs.Common.{◌≡◌, ◌+◌, drop}
use Rattle.brd_stub.specs.Points.{taken}
use Rattle.brd_stub.proofs.points.taken.Given as goal

abbrev pub invariant-loop-point : goal.invariant-loop-point
invariant-loop-point l = l.found + taken l.kind (drop l.point-index l.points) ≡ taken l.kind l.points

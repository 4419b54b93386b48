-- what is left says the same as all
use Rattle.std.proofs.Common.{◌≡◌, drop}
use Rattle.brd_stub.specs.Reasons.{touched}
use Rattle.brd_stub.proofs.points.touched.Given as goal

abbrev pub invariant-loop-point : goal.invariant-loop-point
invariant-loop-point l = touched (drop l.point-index l.points) l.read l.written ≡ touched l.points l.read l.written

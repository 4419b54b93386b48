-- what is left says the same as all
use Rattle.std.proofs.Common.{◌≡◌, drop}
use Rattle.brd_stub.specs.Reasons.{kind_at}
use Rattle.brd_stub.proofs.points.kind_at.Given as goal

abbrev pub invariant-loop-point : goal.invariant-loop-point
invariant-loop-point l = kind_at (drop l.point-index l.points) l.address ≡ kind_at l.points l.address

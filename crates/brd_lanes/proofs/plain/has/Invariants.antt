use Rattle.brd_lanes.specs.Scan.{NoneBetween, is_address_at}
use Rattle.brd_lanes.proofs.plain.has.Given as goal

abbrev pub invariant-loop-i : goal.invariant-loop-i
invariant-loop-i l = NoneBetween (is_address_at l.addresses l.address) l.fn.from l.i

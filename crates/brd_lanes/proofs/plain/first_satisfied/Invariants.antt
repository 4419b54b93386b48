use Rattle.brd_lanes.specs.Scan.{NoneBetween, is_satisfied_at}
use Rattle.brd_lanes.proofs.plain.first_satisfied.Given as goal

abbrev pub invariant-loop-i : goal.invariant-loop-i
invariant-loop-i l = NoneBetween (is_satisfied_at l.pats l.or_modes l.current) l.fn.from l.i

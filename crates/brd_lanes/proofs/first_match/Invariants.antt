use Rattle.std.proofs.Common.{◌-◌, ◌≤◌, length}
use Rattle.brd_lanes.specs.Scan.{NoneBetween, is_satisfied_at}
use Rattle.brd_lanes.proofs.first_match.Given as goal

abbrev pub invariant-loop-at : goal.invariant-loop-at
invariant-loop-at l = record {
  started : l.fn.from ≤ l.at;
  within : l.at ≤ length l.pats;
  none : NoneBetween (is_satisfied_at l.pats l.or_modes l.current) l.fn.from l.at;
}

abbrev pub decreases-loop-at : goal.decreases-loop-at
decreases-loop-at l = length l.pats - l.at

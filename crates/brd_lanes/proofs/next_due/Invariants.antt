use Rattle.std.proofs.Common.{◌-◌, ◌≤◌, length}
use Rattle.brd_lanes.specs.Scan.{NoneBetween, is_due_at}
use Rattle.brd_lanes.proofs.next_due.Given as goal

abbrev pub invariant-loop-at : goal.invariant-loop-at
invariant-loop-at l = record {
  started : l.fn.from ≤ l.at;
  within : l.at ≤ length l.dues;
  none : NoneBetween (is_due_at l.dues l.now) l.fn.from l.at;
}

abbrev pub decreases-loop-at : goal.decreases-loop-at
decreases-loop-at l = length l.dues - l.at

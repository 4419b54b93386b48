use Rattle.std.proofs.Common.{◌-◌, ◌≤◌, length}
use Rattle.brd_lanes.specs.Scan.{NoneBetween, is_address_at}
use Rattle.brd_lanes.proofs.hits.Given as goal

abbrev pub invariant-loop-at : goal.invariant-loop-at
invariant-loop-at l = record {
  within : l.at ≤ length l.addresses;
  none : NoneBetween (is_address_at l.addresses l.address) 0 l.at;
}

abbrev pub decreases-loop-at : goal.decreases-loop-at
decreases-loop-at l = length l.addresses - l.at

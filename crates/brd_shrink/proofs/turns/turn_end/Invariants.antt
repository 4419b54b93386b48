-- Up to here the list isn't cut.
use Rattle.std.proofs.Common.{◌≡◌, ◌≤◌, ◌<◌, ℕ, ◌-◌, length}
use Rattle.std.specs.Prelude.{false}
use Rattle.brd_shrink.specs.Turns.{is_cut}
use Rattle.brd_shrink.proofs.turns.turn_end.Given as goal

abbrev pub invariant-loop-to : goal.invariant-loop-to
invariant-loop-to l = record {
  some : l.from < l.to;
  within : l.to ≤ length l.events;
  whole : (k : ℕ) → l.from < k → k < l.to → is_cut l.events k ≡ false;
}

abbrev pub decreases-loop-to : goal.decreases-loop-to
decreases-loop-to l = length l.events - l.to

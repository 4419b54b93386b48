-- None of the events so far may come but this one.
use Rattle.std.proofs.Common.{◌≡◌, ℕ, ◌<◌}
use Rattle.std.specs.Prelude.{true}
use Rattle.brd_explore.specs.Schedules.{event_at}
use Rattle.brd_spots.specs.Spots.{spot_of}
use Rattle.brd_only.specs.Finding.{may_go}
use Rattle.brd_only.proofs.walk.is_alone.Given as goal

abbrev pub invariant-loop-other : goal.invariant-loop-other
invariant-loop-other l =
    (k : ℕ) → k < l.other-index → may_go l.regions (spot_of l.board l.here) (event_at l.among k) ≡ true → event_at l.among k ≡ l.event

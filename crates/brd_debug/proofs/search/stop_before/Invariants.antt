-- A board has played some events, and there is no stop from here up to the position.
use Rattle.std.proofs.Common.{◌≤◌}
use Rattle.brd_journal.specs.Playing.{IsPlayed}
use Rattle.brd_debug.specs.Stops.{IsStop, NoneFrom}
use Rattle.brd_debug.proofs.search.stop_before.Given as goal

abbrev pub invariant-loop-to : goal.invariant-loop-to
invariant-loop-to g l = record {
  played : IsPlayed l.boot l.journal.events l.playback;
  below : l.to ≤ l.end;
  none : NoneFrom (IsStop l.stops l.boot l.journal.events) l.to l.end;
}

abbrev pub decreases-loop-to : goal.decreases-loop-to
decreases-loop-to g l = l.to

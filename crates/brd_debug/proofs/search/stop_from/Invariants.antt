-- Up to where the board has played, there is no stop from where it began on, and the snapshots are noted.
use Rattle.std.proofs.Common.{◌≤◌, ◌-◌}
use Rattle.brd_journal.specs.Playing.{IsPlayed}
use Rattle.brd_debug.specs.Kept.{AreKept, IsNoted, plan_of}
use Rattle.brd_debug.specs.Stops.{IsStop, NoneFrom}
use Rattle.brd_debug.proofs.search.stop_from.Given as goal

abbrev pub invariant-loop-playback : goal.invariant-loop-playback
invariant-loop-playback g l = record {
  from : l.fn.playback.at ≤ l.playback.at;
  below : l.playback.at ≤ l.to;
  none : NoneFrom (IsStop l.stops l.boot l.journal.events) l.fn.playback.at l.playback.at;
  played : IsPlayed l.boot l.journal.events l.playback;
  kept : AreKept l.boot l.journal.events l.snapshots.kept;
  noted : IsNoted l.boot l.journal.events (plan_of l.fn.snapshots) l.fn.playback.at (l.playback.at - l.fn.playback.at) (plan_of l.snapshots);
}

abbrev pub decreases-loop-playback : goal.decreases-loop-playback
decreases-loop-playback g l = l.to - l.playback.at

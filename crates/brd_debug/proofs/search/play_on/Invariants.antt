-- The board has played up to where it is, and the snapshots are those of the journal, as they were noted on the way.
use Rattle.std.proofs.Common.{◌≤◌, ◌-◌}
use Rattle.brd_journal.specs.Playing.{IsPlayed}
use Rattle.brd_debug.specs.Kept.{AreKept, IsNoted, plan_of}
use Rattle.brd_debug.proofs.search.play_on.Given as goal

abbrev pub invariant-loop-playback : goal.invariant-loop-playback
invariant-loop-playback g l = record {
  from : l.fn.playback.at ≤ l.playback.at;
  on : l.playback.at ≤ l.to;
  played : IsPlayed l.boot l.journal.events l.playback;
  kept : AreKept l.boot l.journal.events l.snapshots.kept;
  noted : IsNoted l.boot l.journal.events (plan_of l.fn.snapshots) l.fn.playback.at (l.playback.at - l.fn.playback.at) (plan_of l.snapshots);
}

abbrev pub decreases-loop-playback : goal.decreases-loop-playback
decreases-loop-playback g l = l.to - l.playback.at

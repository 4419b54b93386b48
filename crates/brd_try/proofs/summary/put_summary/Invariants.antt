-- It hasn't gone past the end, and has played the events so far.
use Rattle.std.proofs.Common.{◌≤◌, ◌-◌}
use Rattle.brd_journal.specs.Playing.{IsPlayed}
use Rattle.brd_try.proofs.summary.put_summary.Given as goal

abbrev pub invariant-loop-tracer : goal.invariant-loop-tracer
invariant-loop-tracer l = record {
  on : l.tracer.playback.at ≤ l.len;
  played : IsPlayed l.first l.journal.events l.tracer.playback;
}

abbrev pub decreases-loop-tracer : goal.decreases-loop-tracer
decreases-loop-tracer l = l.len - l.tracer.playback.at

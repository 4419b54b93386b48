-- It hasn't gone past the end, has played the events so far, what it knows of the board is so, and its timeline begins
-- where it did.
use Rattle.std.proofs.Common.{◌≡◌, ◌≤◌, ◌-◌}
use Rattle.brd_board.specs.Board.{BoardState}
use Rattle.brd_journal.specs.Playing.{IsPlayed}
use Rattle.brd_trace.specs.Recorded.{begun_of}
use Rattle.brd_command.specs.TraceCommand.{IsFollowed, IsKnown}
use Rattle.brd_command.proofs.trace_command.Traced.play.Given as goal

abbrev pub invariant-loop-tracer : goal.invariant-loop-tracer
invariant-loop-tracer g l = record {
  on : l.tracer.playback.at ≤ l.to;
  played : (boot : BoardState) → IsPlayed boot l.self.journal.now.events l.fn.tracer.playback
      → IsPlayed boot l.self.journal.now.events l.tracer.playback;
  follows : (boot : BoardState) → IsFollowed boot l.self.journal.now.events l.fn.tracer
      → IsFollowed boot l.self.journal.now.events l.tracer;
  knows : (boot : BoardState) → IsKnown boot l.self.journal.now.events l.fn.tracer
      → IsKnown boot l.self.journal.now.events l.tracer;
  begun : begun_of l.tracer.notes ≡ begun_of l.fn.tracer.notes;
}

abbrev pub decreases-loop-tracer : goal.decreases-loop-tracer
decreases-loop-tracer g l = l.to - l.tracer.playback.at

-- It hasn't gone past the end, has played the events so far, and has written what is told of them.
use Rattle.std.proofs.Common.{◌≤◌, ◌-◌}
use Rattle.brd_board.specs.Board.{BoardState}
use Rattle.brd_journal.specs.Playing.{IsPlayed}
use Rattle.brd_command.specs.TraceCommand.{WritesTold}
use Rattle.brd_command.proofs.trace_command.Traced.write_events.Given as goal

abbrev pub invariant-loop-tracer : goal.invariant-loop-tracer
invariant-loop-tracer g l = record {
  on : l.tracer.playback.at ≤ l.self.part.to;
  played : (boot : BoardState) → IsPlayed boot l.self.journal.now.events l.fn.tracer.playback
      → IsPlayed boot l.self.journal.now.events l.tracer.playback;
  told : (boot : BoardState) → IsPlayed boot l.self.journal.now.events l.fn.tracer.playback
      → WritesTold l.self.manner boot l.self.journal.now.events l.fn.tracer.playback.at l.tracer.playback.at l.fn.tracer.printer
      l.tracer.printer (g.W.Write.contents l.fn.writer) (g.W.Write.contents l.writer);
}

abbrev pub decreases-loop-tracer : goal.decreases-loop-tracer
decreases-loop-tracer g l = l.self.part.to - l.tracer.playback.at

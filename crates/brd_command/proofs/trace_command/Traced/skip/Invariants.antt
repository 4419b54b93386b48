-- It hasn't gone past the end, has played the events so far, shows the same, and what it knows
-- of the board is so.
use Rattle.std.proofs.Common.{◌≡◌, ◌≤◌, ◌-◌}
use Rattle.brd_board.specs.Board.{BoardState}
use Rattle.brd_journal.specs.Playing.{IsPlayed}
use Rattle.brd_command.specs.TraceCommand.{IsKnown}
use Rattle.brd_command.proofs.trace_command.Traced.skip.Given as goal

abbrev pub invariant-loop-tracer : goal.invariant-loop-tracer
invariant-loop-tracer g l = record {
  on : l.tracer.playback.at ≤ l.to;
  printer : l.tracer.printer ≡ l.fn.tracer.printer;
  played : (boot : BoardState) → IsPlayed boot l.self.journal.now.events l.fn.tracer.playback
      → IsPlayed boot l.self.journal.now.events l.tracer.playback;
  knows : (boot : BoardState) → IsKnown boot l.self.journal.now.events l.fn.tracer
      → IsKnown boot l.self.journal.now.events l.tracer;
}

abbrev pub decreases-loop-tracer : goal.decreases-loop-tracer
decreases-loop-tracer g l = l.to - l.tracer.playback.at

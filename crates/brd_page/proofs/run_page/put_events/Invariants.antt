-- It has gone on, and not past the end; both have come as far, and what is known of the run stays known.
use Rattle.std.proofs.Common.{◌≡◌, ◌≤◌, ◌-◌, ℕ}
use Rattle.brd_board.specs.Board.{BoardState}
use Rattle.brd_page.specs.Recorder.{IsOfRun}
use Rattle.brd_page.proofs.run_page.put_events.Given as goal

abbrev pub invariant-loop-recorder : goal.invariant-loop-recorder
invariant-loop-recorder l = record {
  on : l.recorder.playback.at ≤ l.part.to;
  both : l.recorder.tracer.playback.at ≡ l.recorder.playback.at;
  recorded : (boot : BoardState) (from : ℕ) → IsOfRun boot l.part.journal.now.events from l.fn.recorder
      → IsOfRun boot l.part.journal.now.events from l.recorder;
}

abbrev pub decreases-loop-recorder : goal.decreases-loop-recorder
decreases-loop-recorder l = l.part.to - l.recorder.playback.at

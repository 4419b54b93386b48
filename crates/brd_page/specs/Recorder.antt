-- A run that is played for a page.
use Rattle.std.specs.Prelude.{◌≡◌, ℕ, ◌≤◌, List, Some}
use Rattle.brd_board.specs.declared.event.Event.{Event}
use Rattle.brd_board.specs.Board.{BoardState}
use Rattle.brd_journal.specs.Playing.{IsPlayed}
use Rattle.brd_trace.specs.Recorded.{begun_of, IsNoted}
use Rattle.brd_page.specs.Events.{IsDataUpTo}
use Rattle.brd_page.specs.declared.recorder.Recorder.{Recorder}

-- The board and the tracer's have played the first events of a list, what the tracer knows is so, and it makes a
-- timeline from a position on; from there on the data has the events, where it has what comes before them.
pub record IsOfRun (boot : BoardState) (events : List Event) (from : ℕ) (it : Recorder) : Type 0 where
  pub played : IsPlayed boot events it.playback
  pub traced : IsPlayed boot events it.tracer.playback
  pub noted : IsNoted boot events it.tracer.playback.at it.tracer.notes
  pub begun : begun_of it.tracer.notes ≡ Some from
  pub from_is : it.from ≡ from
  pub least : from ≤ it.playback.at
  pub told : IsDataUpTo boot events from it.playback.at it.text

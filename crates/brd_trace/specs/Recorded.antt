-- What is known of the board while a timeline is made of its run.
use Rattle.std.specs.Prelude.{◌≡◌, ℕ, List, Option, None, Some, is_some}
use Rattle.std.specs.Option.{option_map}
use Rattle.brd_board.specs.declared.event.Event.{Event}
use Rattle.brd_board.specs.Board.{BoardState}
use Rattle.brd_journal.specs.Playing.{board_at}
use Rattle.brd_recording.specs.declared.recording.Recording.{Recording}
use Rattle.brd_trace.specs.declared.notes.Notes.{Notes}
use Rattle.brd_recording.specs.Lanes.{Lanes, lanes_of}
use Rattle.brd_trace.specs.Noted.{Knows}
use Rattle.brd_recording.specs.Recording.{IsRecorded, doings_in, Begins, Sees}

-- ---- how it stands after so many events

-- What is known of the board after the first n events is so, and so is what a timeline has up to there.
pub record IsNoted (boot : BoardState) (events : List Event) (n : ℕ) (notes : Notes) : Type 0 where
  pub known : Knows (board_at boot events n) notes
  pub recorded : IsRecorded boot events n (option_map lanes_of notes.recording)

-- where one that is made begins
abbrev pub begun_of : Notes → Option ℕ
begun_of notes = option_map (λ (it : Recording). it.timeline.from) notes.recording

-- ---- how one is made

abbrev pub BeginsIn : ℕ → Notes → Option Lanes → Type 0
BeginsIn from notes None = ⊥
BeginsIn from notes (Some it) = Begins (is_some notes.off) notes.standings.of notes.tasks.items from it

-- as they are known
abbrev pub SeesNotes : ℕ → Notes → Lanes → Lanes → Type 0
SeesNotes at notes old new =
    Sees at (doings_in (is_some notes.off) notes.standings.of notes.tasks.items old.cpus) old new

abbrev pub Records : ℕ → Notes → Option Lanes → Option Lanes → Type 0
Records at notes None new = new ≡ None
Records at notes (Some old) None = ⊥
Records at notes (Some old) (Some new) = SeesNotes at notes old new

-- What stands at the front of the lines of a journal, and how they are read from there on.
use Rattle.std.specs.Prelude.{◌≡◌, ℕ, ◌+◌, ◌<◌, List, length, Result, Ok, Err}
use Rattle.brd_text.specs.Faults.{◌>>=◌}
use Rattle.brd_text.specs.Lines.{lines_of}
use Rattle.brd_journal.specs.declared.fault.JournalFault.{JournalFault}
use Rattle.brd_journal.specs.declared.fault.JournalFault.TheVariants.{Syntax}
use Rattle.brd_journal.specs.declared.reading.Front.{Front}
use Rattle.brd_journal.specs.declared.reading.Front.TheVariants.{Line, End, Wrong}
use Rattle.brd_journal.specs.Runs.{copies}
use Rattle.brd_journal.specs.Journal.{JournalState, appended}
use Rattle.brd_journal.specs.Reading.{lines_read}

-- a text with this front, whose first line has this number, read after the lines that made this journal
abbrev pub read_from : JournalState → ℕ → Front → Result JournalState JournalFault
read_from journal number (Line run after) = do
  more ← appended journal (copies run.event run.count)
  lines_read more (number + 1) (lines_of after.now)
read_from journal number End = Ok journal
read_from journal number Wrong = Err (Syntax number)

-- a text has this front
abbrev pub IsFront : List ℕ → Front → Type 0
IsFront text front =
    (journal : JournalState) (number : ℕ) → lines_read journal number (lines_of text) ≡ read_from journal number front

-- what stands after a line of the front is shorter than the text
abbrev pub IsShorter : List ℕ → Front → Type 0
IsShorter text (Line run after) = length after.now < length text
IsShorter text End = Unit {0}
IsShorter text Wrong = Unit {0}

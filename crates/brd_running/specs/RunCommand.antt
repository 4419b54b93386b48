-- The command `run`: what it writes for what it reads, and how it ends where it doesn't.
use Rattle.std.specs.Prelude.{◌≡◌, ℕ, List, length, Option, Result, Ok, Err}
use Rattle.std.specs.Io.KnownBytes.{Keeps}
use Rattle.brd_board.specs.Board.{after}
use Rattle.brd_report.specs.Output.{Writes, WritesFront}
use Rattle.brd_report.specs.Report.{report_of}
use Rattle.brd_inputs.specs.Start.{AreWithin, IsStart, KeepsFromStarting}
use Rattle.brd_inputs.specs.declared.fault.CommandFault.{CommandFault}
use Rattle.brd_inputs.specs.declared.fault.CommandFault.TheVariants.{NoMemory, Write}
use Rattle.brd_inputs.specs.declared.input_name.InputName.TheVariants as input_name
use Rattle.brd_inputs.specs.declared.start.Start.{Start}

-- The bytes that show what comes of an object file, a configuration and a journal: the report of the board that the
-- first two make, after the journal's events.
pub record ShowsRun (image config text bytes : List ℕ) : Type 0 where
  pub start : Start
  pub within : AreWithin image config text
  pub is_start : IsStart image config text start
  pub shown : bytes ≡ report_of (length start.journal.events) (after start.board start.journal.events)

-- Nothing is written where what was read has a fault. Where writing failed, a front of the report was written.
abbrev pub RefusesRun : CommandFault → List ℕ → List ℕ → List ℕ → Option (List ℕ) → Option (List ℕ) → Type 0
RefusesRun NoMemory image config journal old new = Keeps old new
RefusesRun (Write error) image config journal old new = WritesFront (ShowsRun image config journal) old new
RefusesRun fault image config journal old new =
    KeepsFromStarting input_name.Journal image config journal fault × Keeps old new

-- how `run` ends: the report was written, or it was refused
abbrev pub RunEnds : Result Unit CommandFault → List ℕ → List ℕ → List ℕ → Option (List ℕ) → Option (List ℕ) → Type 0
RunEnds (Ok done) image config journal old new = Writes (ShowsRun image config journal) old new
RunEnds (Err fault) image config journal old new = RefusesRun fault image config journal old new

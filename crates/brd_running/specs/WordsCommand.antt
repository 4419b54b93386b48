-- The command `words`: what it writes for what it reads, and how it ends where it doesn't.
use Rattle.std.specs.Prelude.{◌≡◌, ◌≢◌, ℕ, ◌<◌, ◌≤◌, List, length, replicate, Option, Result, Ok, Err}
use Rattle.std.specs.Io.KnownBytes.{Keeps}
use Rattle.std.specs.IoError.{error_kind}
use Rattle.std.specs.declared.io.ErrorKind.TheVariants.{OutOfMemory}
use Rattle.brd_board.specs.declared.event.Event.TheVariants.{Step}
use Rattle.brd_board.specs.Board.{BoardState, after}
use Rattle.brd_board.specs.Boot.{boot_words}
use Rattle.brd_inputs.specs.Input.{most_bytes}
use Rattle.brd_report.specs.Output.{Writes, WritesFront}
use Rattle.brd_report.specs.Shown.{board_shown}
use Rattle.brd_running.specs.WordText.{words_of_text}
use Rattle.brd_inputs.specs.declared.words_fault.WordsFault.TheVariants as words_fault
use Rattle.brd_inputs.specs.declared.fault.CommandFault.{CommandFault}
use Rattle.brd_inputs.specs.declared.input_name.InputName.TheVariants.{StandardInput}
use Rattle.brd_inputs.specs.declared.fault.CommandFault.TheVariants.{NoMemory, Words, Read, TooLong, TooManyReads}
use Rattle.brd_inputs.specs.declared.fault.CommandFault.TheVariants.{Write}

-- the bytes that show the board of these words after n steps of processor 1
pub record ShowsWords (words : List ℕ) (steps : ℕ) (bytes : List ℕ) : Type 0 where
  pub board : BoardState
  pub boots : boot_words words ≡ Ok board
  pub shown : bytes ≡ board_shown (after board (replicate steps (Step 1)))

-- the bytes that show the board of a text's words after n steps of processor 1
pub record ShowsText (text : List ℕ) (steps : ℕ) (bytes : List ℕ) : Type 0 where
  pub words : List ℕ
  pub are_words : words_of_text text ≡ Ok words
  pub are_shown : ShowsWords words steps bytes

-- A fault of the input is the input's first, and comes before anything is written. Where writing failed, a front of the
-- output was written. An input that was read whole is no longer than an input may be.
abbrev pub RefusesWords : CommandFault → List ℕ → ℕ → Option (List ℕ) → Option (List ℕ) → Type 0
RefusesWords NoMemory input steps old new = Keeps old new
RefusesWords (Words fault) input steps old new =
    (length input ≤ most_bytes) × (words_of_text input ≡ Err fault) × (fault ≢ words_fault.NoMemory) × Keeps old new
RefusesWords (Read from error) input steps old new =
    (from ≡ StandardInput) × (error_kind error ≢ OutOfMemory) × Keeps old new
RefusesWords (TooLong from) input steps old new = (from ≡ StandardInput) × (most_bytes < length input) × Keeps old new
RefusesWords (TooManyReads from) input steps old new = (from ≡ StandardInput) × Keeps old new
RefusesWords (Write error) input steps old new =
    (length input ≤ most_bytes) × WritesFront (ShowsText input steps) old new
RefusesWords _ input steps old new = ⊥

-- how `words` ends: the board of the input was written, or it was refused
abbrev pub WordsEnds : Result Unit CommandFault → List ℕ → ℕ → Option (List ℕ) → Option (List ℕ) → Type 0
WordsEnds (Ok done) input steps old new = (length input ≤ most_bytes) × Writes (ShowsText input steps) old new
WordsEnds (Err fault) input steps old new = RefusesWords fault input steps old new

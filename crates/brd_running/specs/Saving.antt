-- A journal that a search has found, and the file that gets it. `created` and `closed` say what calls on files did,
-- `contents` what a file holds that is written.
use Rattle.std.specs.Prelude.{◌≡◌, ◌⊎◌, ℕ, ◌<◌, Bool, false, ◌||◌, List, length, bytes_eq, Option, None, Some, Result}
use Rattle.std.specs.Prelude.{Ok, Err, IsErrAnd}
use Rattle.std.specs.Io.KnownBytes.{Appends}
use Rattle.std.specs.declared.io.Error.{Error}
use Rattle.brd_board.specs.declared.event.Event.{Event}
use Rattle.brd_inputs.specs.Faults.{IsOfOpen}
use Rattle.brd_inputs.specs.declared.fault.CommandFault.{CommandFault}
use Rattle.brd_inputs.specs.declared.fault.CommandFault.TheVariants.{NoMemory, Schedule, Write}
use Rattle.brd_inputs.specs.declared.schedule_fault.ScheduleFault.TheVariants.{TooLong}
use Rattle.brd_journal.specs.Journal.{most_runs}
use Rattle.brd_journal.specs.declared.fault.JournalFault.{JournalFault}
use Rattle.brd_journal.specs.declared.fault.JournalFault.TheVariants as journal_fault
use Rattle.brd_report.specs.Output.{AppendsFront}

-- what may keep events from being a journal: want of memory, or that they are more than a journal may have runs
abbrev pub IsOfJournal : List Event → CommandFault → Type 0
IsOfJournal events fault = (fault ≡ NoMemory) ⊎ ((fault ≡ Schedule TooLong) × (most_runs < length events))

-- the same, in the words of a journal
abbrev pub KeepsFromJournal : List Event → JournalFault → Type 0
KeepsFromJournal events journal_fault.NoMemory = Unit {0}
KeepsFromJournal events journal_fault.Full = most_runs < length events
KeepsFromJournal events (journal_fault.Syntax line) = ⊥

-- a journal would be written over the object file or the configuration: it has the same name
abbrev pub is_over : Option (List ℕ) → List ℕ → List ℕ → Bool
is_over None image config = false
is_over (Some name) image config = bytes_eq name image || bytes_eq name config

-- The file that is named couldn't be created: the fault has its name, and the files are as they were.
pub record IsRefused {F W : Type 0} (created : F → List ℕ → Result W Error → F → Type 0) (files : F)
    (out : Option (List ℕ)) (fault : CommandFault) : Type 0 where
  pub name : List ℕ
  pub error : Error
  pub named : out ≡ Some name
  pub not_created : created files name (Err error) files
  pub is : IsOfOpen name error fault

-- bytes were written, or writing failed after a front of them
abbrev pub AreWritten : List ℕ → Result Unit CommandFault → Option (List ℕ) → Option (List ℕ) → Type 0
AreWritten bytes (Ok done) old new = Appends old new bytes
AreWritten bytes (Err (Write error)) old new = AppendsFront old new bytes
AreWritten bytes (Err _) old new = ⊥

-- A journal goes to the file that is named, if one is: that is created, gets the journal, and is let go. The fault of a
-- file that couldn't be created has its name.
pub data Saves {F W : Type 0} (created : F → List ℕ → Result W Error → F → Type 0) (closed : F → W → F → Type 0)
    (contents : W → Option (List ℕ)) (old : F) (out : Option (List ℕ)) (journal : List ℕ)
    (result : Result Unit CommandFault) (new : F) : Type 0 where
  no_file : out ≡ None → result ≡ Ok tt → new ≡ old → Saves created closed contents old out journal result new
  not_created : {name : List ℕ} {error : Error} → out ≡ Some name → created old name (Err error) new →
      IsErrAnd result (IsOfOpen name error) →
      Saves created closed contents old out journal result new
  ended : {name : List ℕ} {both : F} {writer last : W} → out ≡ Some name → created old name (Ok writer) both →
      closed both last new → AreWritten journal result (contents writer) (contents last) →
      Saves created closed contents old out journal result new

-- The command `try`: what it runs of what it reads, what it writes of that, which files get it, and how it ends.
use Rattle.std.specs.Prelude.{◌≡◌, ◌⊎◌, ℕ, false, List, length, ◌++◌, codes, Option, None, Some, IfSome}
use Rattle.std.specs.Prelude.{Result, Ok, Err, IsErrAnd}
use Rattle.std.specs.Bool.{MatchBool}
use Rattle.std.specs.Io.KnownBytes.{Appends, Keeps}
use Rattle.std.specs.declared.io.Error.{Error}
use Rattle.brd_board.specs.Board.{BoardState}
use Rattle.brd_image.specs.Headline.{Headline}
use Rattle.brd_inputs.specs.Faults.{IsOfOpen}
use Rattle.brd_inputs.specs.FileKinds.{is_object_file}
use Rattle.brd_inputs.specs.Input.{KeepsFromReading}
use Rattle.brd_inputs.specs.Start.{IsStart, KeepsFromMaking}
use Rattle.brd_inputs.specs.declared.fault.CommandFault.{CommandFault}
use Rattle.brd_inputs.specs.declared.fault.CommandFault.TheVariants.{NoMemory, Write}
use Rattle.brd_inputs.specs.declared.input_name.InputName.TheVariants as input_name
use Rattle.brd_inputs.specs.declared.start.Start.{Start}
use Rattle.brd_journal.specs.Journal.{JournalState, most_runs}
use Rattle.brd_journal.specs.Reading.{journal_of}
use Rattle.brd_page.specs.Page.{IsLastPage}
use Rattle.brd_report.specs.Output.{WritesFront}
use Rattle.brd_try.specs.Told.{IsTold}
use Rattle.brd_try.specs.Tries.{IsTried, KeepsFromTrying}
use Rattle.brd_try.specs.Turns.{steps_in}
use Rattle.brd_try.specs.declared.options.TryOptions.{TryOptions}
use Rattle.brd_running.specs.AsmCommand.{IsObjectFile, KeepsFromAssembling}
use Rattle.brd_running.specs.Saving.{Saves}

-- the object file that is tried: what was read, where that looks like one, else that of the source that was read
abbrev pub IsObjectOf : List ℕ → List ℕ → Type 0
IsObjectOf source object = MatchBool (is_object_file source) (object ≡ source) (IsObjectFile source object)

-- This is run of what was read: the object file, and a configuration and a journal for it. And this is told.
pub record IsTriedOf (options : TryOptions) (source object config journal told : List ℕ) : Type 0 where
  pub is_object : IsObjectOf source object
  pub tried : IsTried options object config journal told

-- nothing is run of the object file of what was read, for this reason
pub record IsUntried (options : TryOptions) (source : List ℕ) (fault : CommandFault) : Type 0 where
  pub object : List ℕ
  pub is_object : IsObjectOf source object
  pub keeps : KeepsFromTrying options object fault

-- Why nothing is run of what was read: it is a source that has no object file, or nothing is run of its object file.
abbrev pub KeepsFromTryingIt : TryOptions → List ℕ → CommandFault → Type 0
KeepsFromTryingIt options source fault =
    ((is_object_file source ≡ false) × KeepsFromAssembling source fault) ⊎ IsUntried options source fault

-- what was run is told by what was written
pub record Tries (options : TryOptions) (source object config journal : List ℕ) (old new : Option (List ℕ)) :
    Type 0 where
  pub told : List ℕ
  pub tried : IsTriedOf options source object config journal told
  pub written : Appends old new told

-- something was run, and then writing failed
abbrev pub IsUntold : TryOptions → List ℕ → Option (List ℕ) → Option (List ℕ) → CommandFault → Type 0
IsUntold options source old new (Write error) = WritesFront (λ told. (object config journal : List ℕ)
    × IsTriedOf options source object config journal told) old new
IsUntold options source old new _ = ⊥

-- Why nothing is told: it couldn't be read, or nothing was run, and nothing was written; or writing failed.
abbrev pub RefusesTrying : TryOptions → List ℕ → Option (List ℕ) → Option (List ℕ) → CommandFault → Type 0
RefusesTrying options source old new fault =
    ((KeepsFromReading input_name.Source (Some source) fault ⊎ KeepsFromTryingIt options source fault) × Keeps old new)
    ⊎ IsUntold options source old new fault

-- ---- files

-- Where a name is given, the configuration goes to the file of that name with `.cfg` behind it, and then the journal to
-- that with `.journal`.
pub data SavesBoth {F W : Type 0} (created : F → List ℕ → Result W Error → F → Type 0) (closed : F → W → F → Type 0)
    (contents : W → Option (List ℕ)) (old : F) (keep : Option (List ℕ)) (config journal : List ℕ)
    (result : Result Unit CommandFault) (new : F) : Type 0 where
  no_name : keep ≡ None → result ≡ Ok tt → new ≡ old →
      SavesBoth created closed contents old keep config journal result new
  no_memory : result ≡ Err NoMemory → new ≡ old →
      SavesBoth created closed contents old keep config journal result new
  no_config : {name : List ℕ} {fault : CommandFault} → keep ≡ Some name →
      Saves created closed contents old (Some (name ++ codes ".cfg")) config (Err fault) new → result ≡ Err fault →
      SavesBoth created closed contents old keep config journal result new
  both : {name : List ℕ} {between : F} → keep ≡ Some name →
      Saves created closed contents old (Some (name ++ codes ".cfg")) config (Ok tt) between →
      Saves created closed contents between (Some (name ++ codes ".journal")) journal result new →
      SavesBoth created closed contents old keep config journal result new

-- A page of the run of a board of an object file and a configuration, under all events of a journal, or the last ones.
pub record IsPageOf (object config journal page : List ℕ) : Type 0 where
  pub start : Start
  pub is_start : IsStart object config journal start
  pub is_page : IsLastPage start.board start.journal.events 0 (length start.journal.events) page

-- where a file is named for it, a page of what was run goes there
pub data SavesPage {F W : Type 0} (created : F → List ℕ → Result W Error → F → Type 0) (closed : F → W → F → Type 0)
    (contents : W → Option (List ℕ)) (old : F) (name : Option (List ℕ)) (object config journal : List ℕ)
    (result : Result Unit CommandFault) (new : F) : Type 0 where
  no_name : name ≡ None → result ≡ Ok tt → new ≡ old →
      SavesPage created closed contents old name object config journal result new
  no_page : {fault : CommandFault} → KeepsFromMaking input_name.Journal object config journal fault →
      result ≡ Err fault → new ≡ old → SavesPage created closed contents old name object config journal result new
  paged : {page : List ℕ} → IsPageOf object config journal page →
      Saves created closed contents old name page result new →
      SavesPage created closed contents old name object config journal result new

-- SOURCE is opened, then read. Only after what was run is told, the files for the configuration and the journal are
-- created, and then that for the page.
pub data TryFilesEnd {F R W : Type 0}
    (opened : F → List ℕ → Result R Error → F → Type 0) (created : F → List ℕ → Result W Error → F → Type 0)
    (closed : F → W → F → Type 0) (remaining : R → Option (List ℕ)) (contents : W → Option (List ℕ))
    (old : F) (source : List ℕ) (options : TryOptions) (keep page before after : Option (List ℕ))
    (result : Result Unit CommandFault) (new : F) : Type 0 where
  not_opened : {error : Error} → opened old source (Err error) new → IsErrAnd result (IsOfOpen source error) →
      before ≡ after →
      TryFilesEnd opened created closed remaining contents old source options keep page before after result new
  refused : {reader : R} {fault : CommandFault} → opened old source (Ok reader) new →
      IfSome (remaining reader) (λ text. RefusesTrying options text before after fault) → result ≡ Err fault →
      TryFilesEnd opened created closed remaining contents old source options keep page before after result new
  unkept : {reader : R} {read : F} (object config journal : List ℕ) {fault : CommandFault} →
      opened old source (Ok reader) read →
      IfSome (remaining reader) (λ text. Tries options text object config journal before after) →
      SavesBoth created closed contents read keep config journal (Err fault) new → result ≡ Err fault →
      TryFilesEnd opened created closed remaining contents old source options keep page before after result new
  tried : {reader : R} {read kept : F} (object config journal : List ℕ) → opened old source (Ok reader) read →
      IfSome (remaining reader) (λ text. Tries options text object config journal before after) →
      SavesBoth created closed contents read keep config journal (Ok tt) kept →
      SavesPage created closed contents kept page object config journal result new →
      TryFilesEnd opened created closed remaining contents old source options keep page before after result new

-- ---- the headline

-- What is told of a source shows the headline: its board starts with the source's words, and with memory as an object
-- file and a configuration name, and is the definition's after the events of a journal. `build` takes these three.
pub record ShowsTried (options : TryOptions) (source object config text told : List ℕ) : Type 0 where
  pub journal : JournalState
  pub is_read : journal_of most_runs text ≡ Ok journal
  pub board : BoardState
  pub headline : Headline source object config journal.events board
  pub is_told : IsTold options.cpus (steps_in journal.events) board told

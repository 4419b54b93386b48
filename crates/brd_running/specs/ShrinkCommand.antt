-- The command `shrink`: what it writes for what it reads, which journal it saves, and how it ends.
use Rattle.std.specs.Prelude.{◌≡◌, ◌⊎◌, ℕ, ◌<◌, ◌≤◌, true, false, List, length, Option, IfSome, Result, Ok, Err}
use Rattle.std.specs.declared.io.Error.{Error}
use Rattle.brd_board.specs.declared.event.Event.{Event}
use Rattle.brd_explore.specs.Shrinking.{is_failing, IsLeast}
use Rattle.brd_explore.specs.declared.wanted.Wanted.{Wanted}
use Rattle.brd_inputs.specs.Opening.{OpensInputs}
use Rattle.brd_inputs.specs.Start.{IsStart, KeepsFromStarting}
use Rattle.brd_inputs.specs.declared.fault.CommandFault.{CommandFault}
use Rattle.brd_inputs.specs.declared.fault.CommandFault.TheVariants.{NoMemory, Passes, Search}
use Rattle.brd_inputs.specs.declared.input_name.InputName.TheVariants as input_name
use Rattle.brd_inputs.specs.declared.inputs.Inputs.{Inputs}
use Rattle.brd_inputs.specs.declared.start.Start.{Start}
use Rattle.brd_journal.specs.Journal.{JournalState}
use Rattle.brd_journal.specs.Text.{text_of}
use Rattle.brd_search.specs.Plans.{IsWanted, KeepsFromWanting}
use Rattle.brd_search.specs.Shown.{shown}
use Rattle.brd_search.specs.declared.fault.SearchFault.{SearchFault}
use Rattle.brd_search.specs.declared.fault.SearchFault.TheVariants as search_fault
use Rattle.brd_shrink.specs.Settled.{AreSome, IsSettled}
use Rattle.brd_shrink.specs.Turns.{switches}
use Rattle.brd_threads.specs.Processors.{processors_of}
use Rattle.brd_running.specs.Saving.{AreWritten, IsRefused, Saves, is_over}
use Rattle.brd_running.specs.declared.shrink_command.ShrinkOptions.{ShrinkOptions}

-- What the options look for on a board.
abbrev pub IsLookedFor : ShrinkOptions → Start → Wanted → Type 0
IsLookedFor options start wanted =
    IsWanted options.looks options.fair (processors_of start.board) start.image.symbols wanted

-- Some of a journal's events, with no more switches, which fail still. They would no more without any one of them, nor
-- with fewer switches where a turn is moved to another cut. And the text of the journal of them, and of the fair end's
-- events where they fail only there.
pub record IsShrunk (options : ShrinkOptions) (start : Start) (journal : List ℕ) : Type 0 where
  pub wanted : Wanted
  pub looks : IsLookedFor options start wanted
  pub left : List Event
  pub fails : is_failing wanted start.board left ≡ true
  pub some : AreSome left start.journal.events
  pub least : IsLeast wanted start.board left
  pub fewer : switches left ≤ switches start.journal.events
  pub settled : IsSettled wanted start.board left
  pub is_text : journal ≡ text_of start.board.memory.order (shown wanted start.board left)

-- the events of a journal don't fail
pub record Passing (options : ShrinkOptions) (start : Start) : Type 0 where
  pub wanted : Wanted
  pub looks : IsLookedFor options start wanted
  pub passes : is_failing wanted start.board start.journal.events ≡ false

-- a journal's events, of which there are a million at most
pub record AreEventsOf (journal : JournalState) (events : List Event) : Type 0 where
  pub same : events ≡ journal.events
  pub few : length events ≤ 1000000

-- what keeps a journal's events from being taken one by one: want of memory, or that there are more than a million
abbrev pub IsOfLength : JournalState → SearchFault → Type 0
IsOfLength journal search_fault.NoMemory = Unit {0}
IsOfLength journal search_fault.Journal = 1000000 < length journal.events
IsOfLength journal _ = ⊥

-- What keeps a journal from being made shorter: want of memory, what is wrong with the options, that it has more than a
-- million events, or that it passes. (What is left is never too long for a journal: it has a million events at most,
-- and its fair end 20,000 rounds of 129.)
abbrev pub KeepsFromShrinking : ShrinkOptions → Start → CommandFault → Type 0
KeepsFromShrinking options start NoMemory = Unit {0}
KeepsFromShrinking options start (Search fault) =
    KeepsFromWanting options.looks options.fair start.image.symbols fault ⊎ IsOfLength start.journal fault
KeepsFromShrinking options start Passes = Passing options start
KeepsFromShrinking options start _ = ⊥

-- the object file, the configuration and the journal make a start, and this is the text of what is left of the journal
pub record IsShrunkOf (options : ShrinkOptions) (image config events journal : List ℕ) : Type 0 where
  pub start : Start
  pub starts : IsStart image config events start
  pub shrunk : IsShrunk options start journal

-- they make one, and it can't be made shorter for this reason
pub record IsKept (options : ShrinkOptions) (image config events : List ℕ) (fault : CommandFault) : Type 0 where
  pub start : Start
  pub starts : IsStart image config events start
  pub keeps : KeepsFromShrinking options start fault

-- why nothing is told: what was read or the options have a fault, or the journal passes
abbrev pub RefusesShrinking : ShrinkOptions → List ℕ → List ℕ → List ℕ → CommandFault → Type 0
RefusesShrinking options image config events fault =
    KeepsFromStarting input_name.Journal image config events fault ⊎ IsKept options image config events fault

-- how both of two ended: with the fault of the first, or that of the second
abbrev pub both : Result Unit CommandFault → Result Unit CommandFault → Result Unit CommandFault
both (Ok done) second = second
both (Err fault) second = Err fault

-- A journal that would be written over the object file or the configuration is refused. Else IMAGE is opened first,
-- then CONFIG, then JOURNAL; where all were, a file for what is left is refused that couldn't be created; else they are
-- read. That file is created only where something is left, and gets its journal before that is told, which is told
-- whatever became of the file.
pub data ShrinkFilesEnd {F R W : Type 0}
    (opened : F → List ℕ → Result R Error → F → Type 0) (created : F → List ℕ → Result W Error → F → Type 0)
    (closed : F → W → F → Type 0) (remaining : R → Option (List ℕ)) (contents : W → Option (List ℕ))
    (old : F) (image config journal : List ℕ) (options : ShrinkOptions) (out before after : Option (List ℕ))
    (result : Result Unit CommandFault) (new : F) : Type 0 where
  over : is_over out image config ≡ true → result ≡ Err (Search search_fault.OverInput) → before ≡ after → new ≡ old →
      ShrinkFilesEnd
      opened created closed remaining contents old image config journal options out before after result new
  not_opened : {fault : CommandFault} → OpensInputs opened old image config journal (Err fault) new →
      result ≡ Err fault → before ≡ after →
      ShrinkFilesEnd
      opened created closed remaining contents old image config journal options out before after result new
  no_out : {inputs : Inputs R} {fault : CommandFault} → OpensInputs opened old image config journal (Ok inputs) new →
      IsRefused created new out fault → result ≡ Err fault → before ≡ after →
      ShrinkFilesEnd
      opened created closed remaining contents old image config journal options out before after result new
  refused : {inputs : Inputs R} {fault : CommandFault} → OpensInputs opened old image config journal (Ok inputs) new →
      IfSome (remaining inputs.image)
      (λ file. IfSome (remaining inputs.config) (λ statements. IfSome (remaining inputs.last) (λ events.
      RefusesShrinking options file statements events fault))) →
      result ≡ Err fault → before ≡ after →
      ShrinkFilesEnd
      opened created closed remaining contents old image config journal options out before after result new
  shrunk : {inputs : Inputs R} {read : F} (text left : List ℕ) {saved : Result Unit CommandFault}
      (told : Result Unit CommandFault) →
      OpensInputs opened old image config journal (Ok inputs) read →
      IfSome (remaining inputs.image)
      (λ file. IfSome (remaining inputs.config) (λ statements. IfSome (remaining inputs.last) (λ events.
      IsShrunkOf options file statements events left))) →
      Saves created closed contents read out left saved new → AreWritten text told before after →
      result ≡ both saved told →
      ShrinkFilesEnd
      opened created closed remaining contents old image config journal options out before after result new

-- What the commands over a board start with: an object file and a configuration, which make a board, and mostly a last
-- input: a journal, or the script of a race. `last` is that input's name.
use Rattle.std.specs.Prelude.{◌≡◌, ◌≢◌, ◌⊎◌, ℕ, ◌<◌, ◌≤◌, List, length, Ok, Err}
use Rattle.std.specs.IoError.{error_kind}
use Rattle.std.specs.declared.io.ErrorKind.TheVariants.{OutOfMemory}
use Rattle.brd_word.specs.declared.order.Order.{Order}
use Rattle.brd_board.specs.Board.{BoardState}
use Rattle.brd_config.specs.Meaning.{config_of}
use Rattle.brd_config.specs.View.{view}
use Rattle.brd_elf.specs.Meaning.{meaning}
use Rattle.brd_image.specs.Building.{loaded}
use Rattle.brd_image.specs.declared.building.Loaded.{Loaded}
use Rattle.brd_image.specs.declared.fault.BuildFault.TheVariants as build_fault
use Rattle.brd_journal.specs.Journal.{JournalState, most_runs}
use Rattle.brd_journal.specs.Reading.{journal_of}
use Rattle.brd_journal.specs.declared.fault.JournalFault.TheVariants as journal_fault
use Rattle.brd_threads.specs.Script.{script_of}
use Rattle.brd_threads.specs.declared.fault.ScriptFault.TheVariants as script_fault
use Rattle.brd_inputs.specs.FileKinds.{build_looks_like, journal_looks_like, script_looks_like}
use Rattle.brd_inputs.specs.Input.{most_bytes}
use Rattle.brd_inputs.specs.declared.fault.CommandFault.{CommandFault}
use Rattle.brd_inputs.specs.declared.fault.CommandFault.TheVariants.{NoMemory, Read, TooLong, TooManyReads, Build}
use Rattle.brd_inputs.specs.declared.fault.CommandFault.TheVariants.{Journal, OtherOrder, Script}
use Rattle.brd_inputs.specs.declared.input_name.InputName.{InputName}
use Rattle.brd_inputs.specs.declared.input_name.InputName.TheVariants as input_name
use Rattle.brd_inputs.specs.declared.inputs.PairTexts.{PairTexts}
use Rattle.brd_inputs.specs.declared.inputs.Texts.{Texts}
use Rattle.brd_inputs.specs.declared.start.Start.{Start}
use Rattle.brd_inputs.specs.declared.start.RaceStart.{RaceStart}

-- the board of an object file and a configuration, and the image and what the configuration says, of which it was made
pub record IsMade (image config : List ℕ) (it : Loaded) : Type 0 where
  pub loads : loaded image config ≡ Ok it.board
  pub is_image : meaning image ≡ Ok it.image
  pub is_configuration : config_of config ≡ Ok (view it.config)

-- Why an object file and a configuration make no board: the first fault, with the other kind of which the faulty one
-- looks.
abbrev pub KeepsFromBuilding : List ℕ → List ℕ → CommandFault → Type 0
KeepsFromBuilding image config NoMemory = Unit {0}
KeepsFromBuilding image config (Build fault kind) =
    (loaded image config ≡ Err fault) × (fault ≢ build_fault.NoMemory) × (kind ≡ build_looks_like image config fault)
KeepsFromBuilding image config _ = ⊥

-- the object file and the configuration are no longer than an input may be
abbrev pub AreBothWithin : List ℕ → List ℕ → Type 0
AreBothWithin image config = (length image ≤ most_bytes) × (length config ≤ most_bytes)

-- both were read to their ends, and neither is longer than an input may be
pub record AreBothRead (image config : List ℕ) (texts : PairTexts) : Type 0 where
  pub within : AreBothWithin image config
  pub is_image : texts.image.items ≡ image
  pub is_config : texts.config.items ≡ config

-- What an object file and a configuration that were read give: neither is longer than an input may be, and they make
-- the board, with what it was made of.
pub record IsLoaded (image config : List ℕ) (it : Loaded) : Type 0 where
  pub within : AreBothWithin image config
  pub loads : loaded image config ≡ Ok it.board
  pub is_image : meaning image ≡ Ok it.image
  pub is_configuration : config_of config ≡ Ok (view it.config)

-- the input of this name is one of the two, and the one before it was read
abbrev pub IsReachedOfBoth : List ℕ → InputName → Type 0
IsReachedOfBoth image input_name.Image = Unit {0}
IsReachedOfBoth image input_name.Configuration = length image ≤ most_bytes
IsReachedOfBoth image _ = ⊥

-- the input of this name is one of the two, the one before it was read, and it is longer than an input may be
abbrev pub IsTooLongOfBoth : List ℕ → List ℕ → InputName → Type 0
IsTooLongOfBoth image config input_name.Image = most_bytes < length image
IsTooLongOfBoth image config input_name.Configuration = (length image ≤ most_bytes) × (most_bytes < length config)
IsTooLongOfBoth image config _ = ⊥

-- why two inputs aren't read: the first of them that can't be read whole
abbrev pub KeepsFromReadingBoth : List ℕ → List ℕ → CommandFault → Type 0
KeepsFromReadingBoth image config NoMemory = Unit {0}
KeepsFromReadingBoth image config (Read input error) = IsReachedOfBoth image input × (error_kind error ≢ OutOfMemory)
KeepsFromReadingBoth image config (TooLong input) = IsTooLongOfBoth image config input
KeepsFromReadingBoth image config (TooManyReads input) = IsReachedOfBoth image input
KeepsFromReadingBoth image config _ = ⊥

-- Why two inputs give no board: the first of them that can't be read whole; or both were read, and they make none.
abbrev pub KeepsFromLoading : List ℕ → List ℕ → CommandFault → Type 0
KeepsFromLoading image config (Build fault kind) =
    AreBothWithin image config × KeepsFromBuilding image config (Build fault kind)
KeepsFromLoading image config fault = KeepsFromReadingBoth image config fault

-- The board of an object file and a configuration, and the journal of a text, which has the board's byte order; and the
-- image and what the configuration says, of which the board was made.
pub record IsStart (image config text : List ℕ) (start : Start) : Type 0 where
  pub loads : loaded image config ≡ Ok start.board
  pub is_image : meaning image ≡ Ok start.image
  pub is_configuration : config_of config ≡ Ok (view start.config)
  pub reads : journal_of most_runs text ≡ Ok start.journal
  pub orders : start.journal.order ≡ start.board.memory.order

-- the journal of a text has another byte order than the board of an object file and a configuration, which has this one
pub record AreOfOtherOrders (image config text : List ℕ) (order : Order) : Type 0 where
  pub board : BoardState
  pub journal : JournalState
  pub loads : loaded image config ≡ Ok board
  pub reads : journal_of most_runs text ≡ Ok journal
  pub board_order : board.memory.order ≡ order
  pub differs : journal.order ≢ order

-- the board of an object file and a configuration, what it was made of, and the script of a text
pub record IsRaceStart (image config text : List ℕ) (start : RaceStart) : Type 0 where
  pub loads : loaded image config ≡ Ok start.board
  pub is_image : meaning image ≡ Ok start.image
  pub is_configuration : config_of config ≡ Ok (view start.config)
  pub reads : script_of text ≡ Ok start.script.items

-- what the last of the three inputs may be called
abbrev pub IsLast : InputName → Type 0
IsLast last = (last ≡ input_name.Journal) ⊎ (last ≡ input_name.Script)

-- no input is longer than an input may be
abbrev pub AreWithin : List ℕ → List ℕ → List ℕ → Type 0
AreWithin image config text = (length image ≤ most_bytes) × (length config ≤ most_bytes) × (length text ≤ most_bytes)

-- the three inputs were read to their ends, and none is longer than an input may be
pub record AreRead (image config text : List ℕ) (texts : Texts) : Type 0 where
  pub within : AreWithin image config text
  pub is_image : texts.image.items ≡ image
  pub is_config : texts.config.items ≡ config
  pub is_last : texts.last.items ≡ text

-- Why an object file, a configuration and a text that were read give no start: the first fault of the object file and
-- the configuration; or these make a board, and it is the first of the text, which should be a journal or a script; or
-- the text is a journal of another byte order. With a fault of a form stands the other kind of which the faulty one
-- looks.
abbrev pub KeepsFromMaking : InputName → List ℕ → List ℕ → List ℕ → CommandFault → Type 0
KeepsFromMaking last image config text NoMemory = Unit {0}
KeepsFromMaking last image config text (Build fault kind) =
    (loaded image config ≡ Err fault) × (fault ≢ build_fault.NoMemory) × (kind ≡ build_looks_like image config fault)
KeepsFromMaking last image config text (Journal fault kind) =
    (last ≡ input_name.Journal) × (board : BoardState) × (loaded image config ≡ Ok board)
    × (journal_of most_runs text ≡ Err fault) × (fault ≢ journal_fault.NoMemory)
    × (kind ≡ journal_looks_like text fault)
KeepsFromMaking last image config text (OtherOrder order) =
    (last ≡ input_name.Journal) × AreOfOtherOrders image config text order
KeepsFromMaking last image config text (Script fault kind) =
    (last ≡ input_name.Script) × (board : BoardState) × (loaded image config ≡ Ok board) × (script_of text ≡ Err fault)
    × (fault ≢ script_fault.NoMemory)
    × (kind ≡ script_looks_like text fault)
KeepsFromMaking last image config text _ = ⊥

-- the input of this name is one of the three, and those before it were read
abbrev pub IsReached : InputName → List ℕ → List ℕ → InputName → Type 0
IsReached last image config input_name.Image = Unit {0}
IsReached last image config input_name.Configuration = length image ≤ most_bytes
IsReached last image config input = (input ≡ last) × (length image ≤ most_bytes) × (length config ≤ most_bytes)

-- how many bytes the input of this name has, of the three
abbrev pub length_of : List ℕ → List ℕ → List ℕ → InputName → ℕ
length_of image config text input_name.Image = length image
length_of image config text input_name.Configuration = length config
length_of image config text input = length text

-- the input of this name is one of the three, those before it were read, and it is longer than an input may be
abbrev pub IsTooLong : InputName → List ℕ → List ℕ → List ℕ → InputName → Type 0
IsTooLong last image config text input =
    IsReached last image config input × (most_bytes < length_of image config text input)

-- Why three inputs give no start: the first of them that can't be read whole; or all were read, and what they say gives
-- none.
abbrev pub KeepsFromStarting : InputName → List ℕ → List ℕ → List ℕ → CommandFault → Type 0
KeepsFromStarting last image config text NoMemory = Unit {0}
KeepsFromStarting last image config text (Read input error) =
    IsReached last image config input × (error_kind error ≢ OutOfMemory)
KeepsFromStarting last image config text (TooLong input) = IsTooLong last image config text input
KeepsFromStarting last image config text (TooManyReads input) = IsReached last image config input
KeepsFromStarting last image config text (Build fault kind) =
    AreWithin image config text × KeepsFromMaking last image config text (Build fault kind)
KeepsFromStarting last image config text (Journal fault kind) =
    AreWithin image config text × KeepsFromMaking last image config text (Journal fault kind)
KeepsFromStarting last image config text (OtherOrder order) =
    AreWithin image config text × KeepsFromMaking last image config text (OtherOrder order)
KeepsFromStarting last image config text (Script fault kind) =
    AreWithin image config text × KeepsFromMaking last image config text (Script fault kind)
KeepsFromStarting last image config text _ = ⊥

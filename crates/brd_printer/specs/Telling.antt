-- What a trace prints of the events of a journal: their lines, each once and in their order.
use Rattle.std.specs.Prelude.{◌≡◌, ℕ, ◌+◌, ◌-◌, ◌≤◌, ◌==◌, Bool, true, false, not, ◌&&◌, ◌||◌, if◌then◌else◌}
use Rattle.std.specs.Prelude.{List, [], ◌∷◌, ◌++◌, slice_get, Option, Some, None, unwrap_or}
use Rattle.std.specs.List.{list_any}
use Rattle.brd_mem.specs.declared.image.Symbol.{Symbol}
use Rattle.brd_board.specs.declared.event.Event.{Event}
use Rattle.brd_board.specs.declared.event.Report.{Report}
use Rattle.brd_board.specs.declared.event.Report.TheVariants as report
use Rattle.brd_board.specs.Board.{BoardState, happens}
use Rattle.brd_journal.specs.Playing.{board_at, AreStill}
use Rattle.brd_exec.specs.Unaligned.{aligned}
use Rattle.brd_happening.specs.declared.instruction.{Access.Access, Instruction.Instruction}
use Rattle.brd_happening.specs.declared.happening.{What.What, Happening.Happening}
use Rattle.brd_happening.specs.declared.happening.What.TheVariants as what
use Rattle.brd_happening.specs.Happening.{happening_of}
use Rattle.brd_listing.specs.Names.{IsPrintable}
use Rattle.brd_printer.specs.declared.effect.Form.{Form}
use Rattle.brd_names.specs.declared.line.Heading.{Heading}
use Rattle.brd_names.specs.declared.stretch.{Quiet.Quiet, Stretch.Stretch}
use Rattle.brd_names.specs.declared.stretch.Quiet.TheVariants as quiet
use Rattle.brd_printer.specs.declared.printer.{Options.Options, Manner.Manner, Printer.Printer}
use Rattle.brd_names.specs.Lines.{line_text}
use Rattle.brd_printer.specs.Effects.{IsToldOf}
use Rattle.brd_printer.specs.Links.{ended_by}
use Rattle.brd_printer.specs.Concerns.{concerns}
use Rattle.brd_names.specs.Stretches as quiets
use Rattle.brd_seen.specs.Quiets.{quiet_of, tick_of}

-- ---- what is shown

-- a processor is chosen, or all are
abbrev pub is_chosen : Option ℕ → Option ℕ → Bool
is_chosen None cpu = true
is_chosen (Some chosen) (Some cpu) = chosen == cpu
is_chosen (Some chosen) None = false

-- whether a line is shown of a processor's step, or one that concerns the chosen processor: none where only loads and
-- stores are
abbrev pub shows : Options → Option ℕ → Bool → Bool
shows options cpu concerned = options.shown && not options.touching && (is_chosen options.cpu cpu || concerned)

-- A load or a store is of one of these words, or of a part of one. (An SC that doesn't store is one, too.)
abbrev pub touches : List ℕ → Option Access → Bool
touches words None = false
touches words (Some access) = list_any (λ word. word == aligned access.address) words

-- whether a line is wanted of an instruction: of each; or just of each that loads or stores one of these words
abbrev pub wants : Options → List ℕ → Instruction → Bool
wants options words it = if options.touching then touches words it.access else options.instructions

-- whether the line of an instruction of a processor is shown
abbrev pub shows_instruction : Options → List ℕ → Option ℕ → Instruction → Bool
shows_instruction options words cpu it = options.shown && is_chosen options.cpu cpu && wants options words it

-- whether lines of instructions may be shown
abbrev pub may_list : Options → Bool
may_list options = options.shown && (options.instructions || options.touching)

-- ---- lines

-- the line of the events that were held back
abbrev pub held_text : List Symbol → Option Stretch → List ℕ
held_text symbols None = []
held_text symbols (Some it) = line_text symbols (quiets.heading_of it) (quiets.stretch_text it it.quiet)

abbrev pub heading_of : ℕ → Happening → Heading
heading_of position told = record { position = position; cpu = told.cpu; who = told.who; place = told.place }

-- the line of an event
abbrev pub told_text : List Symbol → ℕ → Happening → List ℕ → List ℕ
told_text symbols position told what = line_text symbols (heading_of position told) what

-- what is held back, and what is put at the end, where a line is shown or not: before it the line of what was held back
abbrev pub held_behind : Bool → Option Stretch → Option Stretch
held_behind shown held = if shown then None else held

abbrev pub text_behind : Bool → List Symbol → Option Stretch → List ℕ → List ℕ
text_behind shown symbols held line = if shown then held_text symbols held ++ line else []

abbrev pub with_held : Printer → Option Stretch → Printer
with_held it held = record { options = it.options; held = held }

-- ---- events that change nothing: those of one kind are one line, which is held back while more may come

abbrev pub longer : Option Stretch → Stretch → Option Stretch
longer None more = None
longer (Some it) more = quiets.joined it more

abbrev pub is_hidden : Options → Stretch → Bool
is_hidden options it = (it.count == 0) || not (shows options (quiets.processor_of it.quiet) false)

abbrev pub held_by : Option Stretch → Stretch → Option Stretch
held_by (Some longer) more = Some longer
held_by None more = Some more

abbrev pub text_by : List Symbol → Option Stretch → Option Stretch → List ℕ
text_by symbols held (Some longer) = []
text_by symbols held None = held_text symbols held

abbrev pub held_quiet : Printer → Stretch → Option Stretch
held_quiet it more = if is_hidden it.options more then it.held else held_by (longer it.held more) more

abbrev pub text_quiet : List Symbol → Printer → Stretch → List ℕ
text_quiet symbols it more = if is_hidden it.options more then [] else text_by symbols it.held (longer it.held more)

-- ---- one event, with those after it that change nothing

abbrev pub stretch_of : Quiet → ℕ → ℕ → ℕ → Stretch
stretch_of kind position count tick = record { quiet = kind; position = position; count = count; tick = tick }

-- raises of the same line that come after one: the line is pending already
abbrev pub more_of : What → ℕ → ℕ → Option Stretch
more_of (what.Raised line) position count = Some (stretch_of (quiet.Again line) (position + 1) (count - 1) 0)
more_of _ position count = None

abbrev pub held_more : Printer → Option Stretch → Option Stretch
held_more it None = it.held
held_more it (Some more) = held_quiet it more

abbrev pub text_more : List Symbol → Printer → Option Stretch → List ℕ
text_more symbols it None = []
text_more symbols it (Some more) = text_quiet symbols it more

-- nothing is told
pub record TellsNothing (old new : Printer) (text : List ℕ) : Type 0 where
  pub same : new ≡ old
  pub none : text ≡ []

-- how an instruction is told of: where only loads and stores are shown, with what a store has written over
abbrev pub form_of : Manner → Options → Form
form_of manner options = record { names = manner.names; order = manner.order; old = options.touching }

-- the line of an instruction that was done is put at the end, with what is said of the links that it ended
pub record PutsInstruction (manner : Manner) (position : ℕ) (told : Happening) (it : Instruction) (ended : List ℕ)
    (old new : Printer) (text : List ℕ) : Type 0 where
  pub what : List ℕ
  pub is_told : IsToldOf (form_of manner old.options) (unwrap_or told.place 0) it ended what
  pub printer : new ≡ with_held old None
  pub line :
      text ≡ held_text manner.names.symbols.now old.held ++ told_text manner.names.symbols.now position told what

-- of an instruction the line is told that says all that it did, if it is shown
pub record TellsInstruction (manner : Manner) (position : ℕ) (told : Happening) (it : Instruction) (ended : List ℕ)
    (old new : Printer) (text : List ℕ) : Type 0 where
  pub shown :
      shows_instruction old.options manner.words.now told.cpu it ≡ true
      → PutsInstruction manner position told it ended old new text
  pub hidden :
      shows_instruction old.options manner.words.now told.cpu it ≡ false → TellsNothing old new text

-- of events that change nothing one line is told, when another line comes
pub record TellsQuiet (symbols : List Symbol) (more : Stretch) (old new : Printer) (text : List ℕ) : Type 0 where
  pub printer : new ≡ with_held old (held_quiet old more)
  pub line : text ≡ text_quiet symbols old more

-- Of any other event a line is told, with some words of printable ASCII; and after a raise the others of the same line.
-- It may be an event that concerns the chosen processor.
pub record TellsLine (symbols : List Symbol) (position count : ℕ) (told : Happening) (concerned : Bool)
    (old new : Printer) (text : List ℕ) : Type 0 where
  pub words : List ℕ
  pub is_one_line : IsPrintable words
  pub middle : Printer
  pub after_line : middle ≡ with_held old (held_behind (shows old.options told.cpu concerned) old.held)
  pub printer : new ≡ with_held middle (held_more middle (more_of told.what position count))
  pub line :
      text ≡ text_behind (shows old.options told.cpu concerned) symbols old.held (told_text symbols position told words)
      ++ text_more symbols middle (more_of told.what position count)

abbrev pub TellsOther : Option Quiet → List Symbol → ℕ → ℕ → Happening → Bool → Printer → Printer → List ℕ → Type 0
TellsOther (Some kind) symbols position count told concerned old new text =
    TellsQuiet symbols (stretch_of kind position count (tick_of told.what)) old new text
TellsOther None symbols position count told concerned old new text =
    TellsLine symbols position count told concerned old new text

abbrev pub instruction_in : What → Option Instruction
instruction_in (what.Instruction it) = Some it
instruction_in _ = None

abbrev pub is_untold : What → Bool
is_untold what.Untold = true
is_untold _ = false

abbrev pub TellsBy :
    Option Instruction → Bool → Option Quiet → Manner → ℕ → ℕ → Happening → List ℕ → Bool → Printer → Printer → List ℕ →
    Type 0
TellsBy (Some it) untold kind manner position count told ended concerned old new text =
    TellsInstruction manner position told it ended old new text
TellsBy None true kind manner position count told ended concerned old new text = TellsNothing old new text
TellsBy None false kind manner position count told ended concerned old new text =
    TellsOther kind manner.names.symbols.now position count told concerned old new text

-- what is told of an event, with those after it that change nothing: so many events
abbrev pub Tells : Manner → ℕ → ℕ → Happening → List ℕ → Bool → Printer → Printer → List ℕ → Type 0
Tells manner position count told ended concerned old new text =
    TellsBy (instruction_in told.what) (is_untold told.what) (quiet_of told) manner position count told ended concerned
    old new text

-- an event that reports this was an ordinary instruction
abbrev pub is_ran : Report → Bool
is_ran (report.Ran address) = true
is_ran _ = false

-- ---- the first line

abbrev pub shown : Options → Options
shown options = record options { shown = true }

-- from here on lines are shown, and nothing is held back
abbrev pub shown_by : Options → Printer
shown_by options = record { options = shown options; held = None }

-- a line that says in some words of printable ASCII what is there before the events
pub record IsFirstLine (symbols : List Symbol) (position : ℕ) (text : List ℕ) : Type 0 where
  pub words : List ℕ
  pub is_one_line : IsPrintable words
  pub line :
      text ≡ line_text symbols (record { position = position; cpu = None; who = None; place = None }) words

-- ---- the events of a journal

-- The event of a position is told, with those after it that change nothing.
pub record IsTold (manner : Manner) (boot : BoardState) (events : List Event) (position count : ℕ) (old new : Printer)
    (text : List ℕ) : Type 0 where
  pub event : Event
  pub is : slice_get events position ≡ Some event
  pub some : 1 ≤ count
  pub still : AreStill boot events (position + 1) (position + count)
  pub tells :
      Tells manner position count (happening_of (board_at boot events position) event)
      (ended_by (board_at boot events position) event)
      (concerns old.options.cpu (board_at boot events position) event) old new text

-- so many events, what is held back after them, and their text
pub record Piece : Type 0 where
  pub count : ℕ
  pub printer : Printer
  pub text : List ℕ

abbrev pub texts_of : List Piece → List ℕ
texts_of [] = []
texts_of (piece ∷ pieces) = piece.text ++ texts_of pieces

-- The pieces are what is told of the events from a position on up to another one, one behind the other.
abbrev pub AreTold : Manner → BoardState → List Event → ℕ → Printer → List Piece → ℕ → Printer → Type 0
AreTold manner boot events from old [] to new = (from ≡ to) × (old ≡ new)
AreTold manner boot events from old (piece ∷ pieces) to new =
    IsTold manner boot events from piece.count old piece.printer piece.text
    × AreTold manner boot events (from + piece.count) piece.printer pieces to new

-- a text is what is told of the events from a position on up to another one
pub record IsTrace (manner : Manner) (boot : BoardState) (events : List Event) (from to : ℕ) (old new : Printer)
    (text : List ℕ) : Type 0 where
  pub pieces : List Piece
  pub told : AreTold manner boot events from old pieces to new
  pub is_text : text ≡ texts_of pieces

-- The headline of the files that commands read and write: what `asm`, `run`, `debug` and `race` show of a source, a
-- configuration and a journal, and for which faults they are refused.
use Rattle.std.specs.Prelude.{◌≡◌, ◌⊎◌, ℕ, ◌≤◌, List, [], ◌∷◌, ◌++◌, length, take, codes, Option, Some, Result, Ok, Err}
use Rattle.std.specs.Io.KnownBytes.{Keeps}
use Rattle.brd_asm.specs.declared.fault.AsmFault.{AsmFault}
use Rattle.brd_board.specs.declared.event.Event.{Event}
use Rattle.brd_board.specs.Board.{BoardState}
use Rattle.brd_debug.specs.Debugger.{DebuggerState, shown}
use Rattle.brd_image.specs.Building.{IsBuilt}
use Rattle.brd_image.specs.Headline.{Headline}
use Rattle.brd_image.specs.declared.fault.BuildFault.TheVariants as build_fault
use Rattle.brd_journal.specs.Journal.{JournalState, most_runs}
use Rattle.brd_journal.specs.Reading.{journal_of}
use Rattle.brd_running.specs.Answers.{Does, ended}
use Rattle.brd_running.specs.AsmCommand.{AsmEnds}
use Rattle.brd_running.specs.DebugLine.{commands_of}
use Rattle.brd_running.specs.Debugging.{debugger_of}
use Rattle.brd_report.specs.Output.{Writes, WritesFront}
use Rattle.brd_report.specs.Report.{number_line, report_of}
use Rattle.brd_inputs.specs.Start.{IsStart}
use Rattle.brd_running.specs.declared.debug_line.DebugCommand.{DebugCommand}
use Rattle.brd_running.specs.declared.debug_line.DebugCommand.TheVariants.{Goto, Next, Back, Quit}
use Rattle.brd_inputs.specs.declared.fault.CommandFault.{CommandFault}
use Rattle.brd_inputs.specs.declared.fault.CommandFault.TheVariants.{NoMemory, Source, Read, TooLong, TooManyReads}
use Rattle.brd_inputs.specs.declared.fault.CommandFault.TheVariants.{Build}
use Rattle.brd_inputs.specs.declared.start.Start.{Start}

-- `asm` has ended well for a source, and these bytes are what it wrote on OUT, which was empty.
abbrev pub IsAssembled : List ℕ → List ℕ → Type 0
IsAssembled source elf = AsmEnds (Ok tt) source (Some []) (Some elf)

-- A report shows the headline: it is that of the board which starts with the source's words, and with memory as the
-- object file names, and is the definition's after the events of the journal's text.
pub record ShowsHeadline (source elf config text report : List ℕ) : Type 0 where
  pub journal : JournalState
  pub is_read : journal_of most_runs text ≡ Ok journal
  pub board : BoardState
  pub headline : Headline source elf config journal.events board
  pub is_report : report ≡ report_of (length journal.events) board

-- A debugger stands at a position n of these events: the board that it shows is the headline's after the first n.
pub record StandsAt (source elf config : List ℕ) (events : List Event) (d : DebuggerState) : Type 0 where
  pub same : d.events ≡ events
  pub within : d.position ≤ length events
  pub headline : Headline source elf config (take d.position events) (shown d)

-- `next` and `back`: they answer `at n` of the position n to which they have led, or stay
abbrev pub LeadsToStop : ℕ → List ℕ → ℕ → Type 0
LeadsToStop from answer to = (answer ≡ number_line (codes "at") to) ⊎ ((to ≡ from) × (answer ≡ ended (codes "none")))

-- Where a command leads, from one position of these events to another, and what it answers of that. `goto`, `next` and
-- `back` answer `at n` of the position n to which they have led, or stay; the others stay.
abbrev pub Leads : List Event → DebugCommand → ℕ → List ℕ → ℕ → Type 0
Leads events (Goto n) from answer to =
    ((to ≡ n) × (answer ≡ number_line (codes "at") to))
    ⊎ ((to ≡ from) × (answer ≡ number_line (codes "past") (length events)))
Leads events Next from answer to = LeadsToStop from answer to
Leads events Back from answer to = LeadsToStop from answer to
Leads events command from answer to = to ≡ from

-- A debugger has done the first of some commands, one after the other (`HasDone`). At each it stood where the commands
-- before it led, and answered by the board of that position, which is the headline's.
pub data HasShown (source elf config : List ℕ) (events : List Event) (first : DebuggerState)
    (commands : List DebugCommand) : List ℕ → DebuggerState → List DebugCommand → Type 0 where
  nothing_yet : HasShown source elf config events first commands [] first commands
  one_more : (bytes answer : List ℕ) (d next : DebuggerState) (command : DebugCommand) (left : List DebugCommand) →
      HasShown source elf config events first commands bytes d (command ∷ left) →
      StandsAt source elf config events d → Does d command answer next →
      Leads events command d.position answer next.position →
      HasShown source elf config events first commands (bytes ++ answer) next left

-- Bytes are answers to the first commands of a text, by the debugger of an object file's board and a journal's events,
-- and show the headline. These commands are left.
pub record ShowsAnswers (source elf config journal text : List ℕ) (left : List DebugCommand)
    (bytes : List ℕ) : Type 0 where
  pub start : Start
  pub is_start : IsStart elf config journal start
  pub last : DebuggerState
  pub answers : HasShown source elf config start.journal.events (debugger_of start) (commands_of text) bytes last left

-- nothing is left to answer: no command, or `quit` comes next
abbrev pub IsAnswered : List DebugCommand → Type 0
IsAnswered [] = Unit {0}
IsAnswered (command ∷ left) = command ≡ Quit

-- answers to all commands of a text, up to `quit` or the last; or to the first of them
abbrev pub ShowsAllAnswers : List ℕ → List ℕ → List ℕ → List ℕ → List ℕ → List ℕ → Type 0
ShowsAllAnswers source elf config journal text bytes =
    (left : List DebugCommand) × IsAnswered left × ShowsAnswers source elf config journal text left bytes

abbrev pub ShowsFirstAnswers : List ℕ → List ℕ → List ℕ → List ℕ → List ℕ → List ℕ → Type 0
ShowsFirstAnswers source elf config journal text bytes =
    (left : List DebugCommand) × ShowsAnswers source elf config journal text left bytes

-- What `debug` has written by its end: answers to all commands that show the headline; or, where it ended otherwise, a
-- front of such answers, or nothing.
abbrev pub ShowsUpToEnd : Result Unit CommandFault → List ℕ → List ℕ → List ℕ → List ℕ → List ℕ
    → Option (List ℕ) → Option (List ℕ) → Type 0
ShowsUpToEnd (Ok done) source elf config journal text old new =
    Writes (ShowsAllAnswers source elf config journal text) old new
ShowsUpToEnd (Err fault) source elf config journal text old new =
    WritesFront (ShowsFirstAnswers source elf config journal text) old new ⊎ Keeps old new

-- a source and a configuration make a board
abbrev pub MakesBoard : List ℕ → List ℕ → Type 0
MakesBoard source config = (board : BoardState) × IsBuilt source config (Ok board)

-- What the end of `asm` tells of building a board of its source and any configuration. The fault of the source that it
-- says is the fault of building. Where it says none, building has no fault of the source. It tells nothing where memory
-- ran out, or the source couldn't be read whole.
abbrev pub TellsOfSource : Result Unit CommandFault → List ℕ → List ℕ → Type 0
TellsOfSource (Err (Source fault excerpt kind)) source config = IsBuilt source config (Err (build_fault.Asm fault))
TellsOfSource (Err NoMemory) source config = Unit {0}
TellsOfSource (Err (Read input error)) source config = Unit {0}
TellsOfSource (Err (TooLong input)) source config = Unit {0}
TellsOfSource (Err (TooManyReads input)) source config = Unit {0}
TellsOfSource _ source config = (fault : AsmFault) → IsBuilt source config (Err (build_fault.Asm fault)) → ⊥

-- What the end of a command over the source's object file tells of building a board of the source and the
-- configuration. A fault of building that it says is that of building. Where it says none, there is a board. It tells
-- nothing where memory ran out, or an input couldn't be read whole.
abbrev pub TellsOfBuilding : Result Unit CommandFault → List ℕ → List ℕ → Type 0
TellsOfBuilding (Err (Build fault kind)) source config = IsBuilt source config (Err fault)
TellsOfBuilding (Err NoMemory) source config = Unit {0}
TellsOfBuilding (Err (Read input error)) source config = Unit {0}
TellsOfBuilding (Err (TooLong input)) source config = Unit {0}
TellsOfBuilding (Err (TooManyReads input)) source config = Unit {0}
TellsOfBuilding _ source config = MakesBoard source config

-- What `try` runs of an object file, and tells.
use Rattle.std.specs.Prelude.{◌≡◌, ℕ, ◌<◌, nat_lt, false, ◌&&◌, List, take}
use Rattle.brd_board.specs.Board.{after}
use Rattle.brd_inputs.specs.Start.{IsStart, KeepsFromBuilding}
use Rattle.brd_inputs.specs.declared.fault.CommandFault.{CommandFault}
use Rattle.brd_inputs.specs.declared.fault.CommandFault.TheVariants.{NoMemory, Build, Schedule}
use Rattle.brd_inputs.specs.declared.schedule_fault.ScheduleFault.TheVariants.{Processors, TooLong}
use Rattle.brd_inputs.specs.declared.start.Start.{Start}
use Rattle.brd_journal.specs.Journal.{most_runs}
use Rattle.brd_journal.specs.declared.fault.JournalFault.{JournalFault}
use Rattle.brd_journal.specs.declared.fault.JournalFault.TheVariants as journal_fault
use Rattle.brd_journal.specs.Text.{text_of}
use Rattle.brd_schedule.specs.Schedule.{made}
use Rattle.brd_schedule.specs.declared.plan.Plan.{Plan}
use Rattle.brd_try.specs.Config.{config_of}
use Rattle.brd_try.specs.Told.{IsTold}
use Rattle.brd_try.specs.Turns.{EndsAfter, IsPlan, steps_in}
use Rattle.brd_try.specs.declared.options.TryOptions.{TryOptions}

-- What is run of an object file and options: the board that the object file and this configuration make, and this
-- journal, whose events are turns of the processors up to where nothing is left to do. The text tells of that board
-- after these events.
pub record IsTried (options : TryOptions) (object config journal text : List ℕ) : Type 0 where
  pub is_config : config ≡ config_of options.cpus object
  pub start : Start
  pub is_start : IsStart object config journal start
  pub is_journal : journal ≡ text_of start.journal.order start.journal.events
  pub plan : Plan
  pub is_plan : IsPlan options plan
  pub len : ℕ
  pub turns : start.journal.events ≡ take len (made plan plan.events)
  pub ends : EndsAfter options.cpus start.board (made plan plan.events) len
  pub told : IsTold options.cpus (steps_in start.journal.events) (after start.board start.journal.events) text

-- the fault of a command whose journal has one
abbrev pub fault_of : JournalFault → CommandFault
fault_of journal_fault.NoMemory = NoMemory
fault_of journal_fault.Full = Schedule TooLong
fault_of (journal_fault.Syntax line) = Schedule TooLong

-- Why nothing is run: memory ran out; the object file and its configuration make no board, with the first fault; a
-- board has 1 to 8 processors; or there may be more turns than a journal has runs.
abbrev pub KeepsFromTrying : TryOptions → List ℕ → CommandFault → Type 0
KeepsFromTrying options object NoMemory = Unit {0}
KeepsFromTrying options object (Build fault kind) =
    KeepsFromBuilding object (config_of options.cpus object) (Build fault kind)
KeepsFromTrying options object (Schedule Processors) = (nat_lt 0 options.cpus && nat_lt options.cpus 9) ≡ false
KeepsFromTrying options object (Schedule TooLong) = most_runs < options.steps
KeepsFromTrying options object _ = ⊥

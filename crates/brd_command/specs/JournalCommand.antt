-- The command `journal`: what it writes for what it is asked, and how it ends where it doesn't.
use Rattle.std.specs.Prelude.{◌≡◌, ◌<◌, ℕ, nat_lt, Bool, true, false, not, ◌&&◌, ◌||◌, List, Option}
use Rattle.std.specs.Prelude.{None, Some, is_some, option_map, unwrap_or, Result, Ok, Err}
use Rattle.std.specs.Io.KnownBytes.{Keeps}
use Rattle.brd_board.specs.declared.event.Event.{Event}
use Rattle.brd_word.specs.declared.order.Order.{Order}
use Rattle.brd_journal.specs.Journal.{most_runs}
use Rattle.brd_journal.specs.Text.{text_of}
use Rattle.brd_schedule.specs.Schedule.{IsMade, made as events_made}
use Rattle.brd_schedule.specs.declared.plan.Plan.{Plan}
use Rattle.brd_schedule.specs.declared.plan.Raise.{Raise}
use Rattle.brd_schedule.specs.declared.plan.Rule.{Rule}
use Rattle.brd_schedule.specs.declared.plan.Rule.TheVariants.{InTurns, Drawn, Lowered}
use Rattle.brd_report.specs.Output.{Writes, WritesFront}
use Rattle.brd_inputs.specs.declared.schedule_fault.ScheduleFault.{ScheduleFault}
use Rattle.brd_inputs.specs.declared.schedule_fault.ScheduleFault.TheVariants as fault
use Rattle.brd_inputs.specs.declared.fault.CommandFault.{CommandFault}
use Rattle.brd_inputs.specs.declared.fault.CommandFault.TheVariants.{NoMemory, Schedule, Write}
use Rattle.brd_command.specs.JournalTexts.{SaysRaises, SaysWeights}
use Rattle.brd_command.specs.declared.journal_options.JournalOptions.{JournalOptions}

-- Options of a journal that is drawn: with which chance, or with which weights.
abbrev pub says_draws : JournalOptions → Bool
says_draws options = is_some options.switch || is_some options.weights

-- options of a journal that is drawn, without the seed
abbrev pub lacks_seed : JournalOptions → Bool
lacks_seed options = not (is_some options.seed) && (says_draws options || is_some options.changes)

-- options that don't go together: with a seed turns, or changes of priorities beside a chance or weights
abbrev pub has_both : JournalOptions → Bool
has_both options = is_some options.seed && (is_some options.turn || (says_draws options && is_some options.changes))

-- a number that was given is above a limit
abbrev pub is_above : ℕ → Option ℕ → Bool
is_above limit None = false
is_above limit (Some n) = nat_lt limit n

-- the options that say who steps go together, and their numbers are within limits
pub record AreOfOneWay (options : JournalOptions) : Type 0 where
  pub seed : lacks_seed options ≡ false
  pub together : has_both options ≡ false
  pub changes : is_above 1000 options.changes ≡ false
  pub switch : is_above 1000 options.switch ≡ false

-- the text of `--raise`, and that of `--weights`, where they are given
abbrev pub raises_text : JournalOptions → Option (List ℕ)
raises_text options = option_map (λ text. text.now) options.raises

abbrev pub weights_text : JournalOptions → Option (List ℕ)
weights_text options = option_map (λ text. text.now) options.weights

-- Who takes the steps of n processors by the options: each in turn, `--turn` steps each, or one where that isn't given;
-- one that is drawn, with a chance of `--switch` in a thousand, or 500 where that isn't given, by the weights that
-- `--weights` says; or the one of the highest priority, with so many changes as `--pct` says.
abbrev pub IsRule : ℕ → JournalOptions → Rule → Type 0
IsRule cpus options (InTurns each) = (options.seed ≡ None) × (each ≡ unwrap_or options.turn 1)
IsRule cpus options (Drawn seed switch weights) =
    (options.seed ≡ Some seed) × (options.changes ≡ None) × (switch ≡ unwrap_or options.switch 500)
    × SaysWeights cpus (weights_text options) weights
IsRule cpus options (Lowered seed changes) = (options.seed ≡ Some seed) × (options.changes ≡ Some changes)

-- The options of a journal of n events of m processors have this fault. A text is at fault exactly where it says no
-- raises, or no weights; a journal is too long only where it has more events than a journal may have runs.
abbrev pub HasFault : ℕ → ℕ → JournalOptions → ScheduleFault → Type 0
HasFault cpus events options fault.NoMemory = ⊥
HasFault cpus events options fault.Processors = (nat_lt 0 cpus && nat_lt cpus 9) ≡ false
HasFault cpus events options fault.Order = options.order ≡ None
HasFault cpus events options fault.Raise = (raises : List Raise) → ¬ SaysRaises (raises_text options) raises
HasFault cpus events options fault.NoSeed = lacks_seed options ≡ true
HasFault cpus events options fault.Both = has_both options ≡ true
HasFault cpus events options fault.Changes = is_above 1000 options.changes ≡ true
HasFault cpus events options fault.Switch = is_above 1000 options.switch ≡ true
HasFault cpus events options fault.Weights = (weights : List ℕ) → ¬ SaysWeights cpus (weights_text options) weights
HasFault cpus events options fault.TooLong = most_runs < events

-- a fault of the options that say who steps
abbrev pub IsOfRule : ℕ → JournalOptions → ScheduleFault → Type 0
IsOfRule cpus options fault.NoSeed = HasFault cpus 0 options fault.NoSeed
IsOfRule cpus options fault.Both = HasFault cpus 0 options fault.Both
IsOfRule cpus options fault.Changes = HasFault cpus 0 options fault.Changes
IsOfRule cpus options fault.Switch = HasFault cpus 0 options fault.Switch
IsOfRule cpus options fault.Weights = HasFault cpus 0 options fault.Weights
IsOfRule cpus options _ = ⊥

-- a fault of the text of `--weights`, for n processors
abbrev pub IsOfWeights : ℕ → Option (List ℕ) → ScheduleFault → Type 0
IsOfWeights cpus text fault.Weights = (weights : List ℕ) → ¬ SaysWeights cpus text weights
IsOfWeights cpus text _ = ⊥

-- a fault of the text of `--raise`, or want of memory
abbrev pub IsOfRaises : Option (List ℕ) → ScheduleFault → Type 0
IsOfRaises text fault.NoMemory = Unit {0}
IsOfRaises text fault.Raise = (raises : List Raise) → ¬ SaysRaises text raises
IsOfRaises text _ = ⊥

-- The options of n processors have none of the faults, those of the byte order and of the length apart.
pub record AreAllowed (cpus : ℕ) (options : JournalOptions) : Type 0 where
  pub processors : (nat_lt 0 cpus && nat_lt cpus 9) ≡ true
  pub one_way : AreOfOneWay options
  pub raises : List Raise
  pub says_raises : SaysRaises (raises_text options) raises
  pub weights : List ℕ
  pub says_weights : SaysWeights cpus (weights_text options) weights

-- the text of a journal of n events, of which each is a raise that is asked for, a tick where one is asked for, or a
-- step of one of m processors by the rule that the options say, for boards of the byte order that is asked for
pub record MakesJournal (cpus events : ℕ) (options : JournalOptions) (bytes : List ℕ) : Type 0 where
  pub allowed : AreAllowed cpus options
  pub plan : Plan
  pub made : List Event
  pub of_processors : plan.cpus ≡ cpus
  pub of_events : plan.events ≡ events
  pub of_ticks : plan.tick_every ≡ options.tick_every
  pub of_raises : SaysRaises (raises_text options) plan.raises.now
  pub of_rule : IsRule cpus options plan.rule
  pub is_made : IsMade plan made
  pub exact : made ≡ events_made plan plan.events
  pub order : Order
  pub of_order : options.order ≡ Some order
  pub shown : bytes ≡ text_of order made

-- what may keep a journal from being made: want of memory, or a fault that its options have
abbrev pub KeepsFromMakingOne : ℕ → ℕ → JournalOptions → CommandFault → Type 0
KeepsFromMakingOne cpus events options NoMemory = Unit {0}
KeepsFromMakingOne cpus events options (Schedule fault) = HasFault cpus events options fault
KeepsFromMakingOne cpus events options _ = ⊥

-- what may keep a plan of n events from being made: want of memory, or that it has too many runs
abbrev pub IsOfMaking : ℕ → CommandFault → Type 0
IsOfMaking events NoMemory = Unit {0}
IsOfMaking events (Schedule fault.TooLong) = most_runs < events
IsOfMaking events _ = ⊥

-- Nothing is written where the options have a fault. Where writing failed, a front of the journal was written.
abbrev pub RefusesJournal : CommandFault → ℕ → ℕ → JournalOptions → Option (List ℕ) → Option (List ℕ) → Type 0
RefusesJournal (Write error) cpus events options old new = WritesFront (MakesJournal cpus events options) old new
RefusesJournal fault cpus events options old new = KeepsFromMakingOne cpus events options fault × Keeps old new

-- how `journal` ends: the journal was written, or it was refused
abbrev pub JournalEnds : Result Unit CommandFault → ℕ → ℕ → JournalOptions → Option (List ℕ) → Option (List ℕ) → Type 0
JournalEnds (Ok done) cpus events options old new = Writes (MakesJournal cpus events options) old new
JournalEnds (Err fault) cpus events options old new = RefusesJournal fault cpus events options old new

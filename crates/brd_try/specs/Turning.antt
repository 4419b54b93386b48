-- What is left of a board that has taken turns.
use Rattle.std.specs.Prelude.{◌≡◌, ℕ, ◌<◌, ◌≤◌, false, length, take}
use Rattle.brd_board.specs.Board.{BoardState, after}
use Rattle.brd_journal.specs.Playing.{board_at}
use Rattle.brd_journal.specs.Journal.{JournalState, most_runs}
use Rattle.brd_journal.specs.Runs.{runs_of}
use Rattle.brd_journal.specs.declared.fault.JournalFault.{JournalFault}
use Rattle.brd_journal.specs.declared.fault.JournalFault.TheVariants.{Full, NoMemory, Syntax}
use Rattle.brd_inputs.specs.declared.fault.CommandFault.{CommandFault}
use Rattle.brd_inputs.specs.declared.fault.CommandFault.TheVariants as command
use Rattle.brd_inputs.specs.declared.schedule_fault.ScheduleFault.TheVariants.{TooLong}
use Rattle.brd_schedule.specs.Schedule.{made}
use Rattle.brd_schedule.specs.declared.plan.Plan.{Plan}
use Rattle.brd_try.specs.Turns.{EndsAfter, IsPlan, is_over, steps_in}
use Rattle.brd_try.specs.declared.options.TryOptions.{TryOptions}
use Rattle.brd_try.specs.declared.turning.Turned.{Turned}

-- A board with n tasks has done the first of these events, up to where nothing is left to do.
pub record HasTurned (boot : BoardState) (tasks : ℕ) (events : JournalState) (it : Turned) : Type 0 where
  pub len : ℕ
  pub taken : it.journal.events ≡ take len events.events
  pub ends : EndsAfter tasks boot events.events len
  pub board : it.board ≡ after boot it.journal.events
  pub steps : it.steps ≡ steps_in it.journal.events
  pub order : it.journal.order ≡ events.order
  pub room : length (runs_of it.journal.events) ≤ most_runs

-- the first n of these events were done, and after fewer of them something was left to do
pub record IsTurning (boot : BoardState) (tasks : ℕ) (events : JournalState) (n : ℕ) (it : Turned) : Type 0 where
  pub within : n ≤ length events.events
  pub taken : it.journal.events ≡ take n events.events
  pub before : (m : ℕ) → m < n → is_over tasks (board_at boot events.events m) ≡ false
  pub board : it.board ≡ board_at boot events.events n
  pub steps : it.steps ≡ steps_in it.journal.events
  pub few : it.steps ≤ n
  pub order : it.journal.order ≡ events.order
  pub limit : it.journal.limit ≡ most_runs
  pub room : length (runs_of it.journal.events) ≤ most_runs

-- why a board takes no turns: memory ran out, or there are more events than a journal has runs
abbrev pub IsUnturned : JournalState → JournalFault → Type 0
IsUnturned events NoMemory = Unit {0}
IsUnturned events Full = most_runs < length events.events
IsUnturned events (Syntax line) = ⊥

-- the processors of a board have taken the turns of these options
pub record TakesTurns (options : TryOptions) (boot : BoardState) (it : Turned) : Type 0 where
  pub plan : Plan
  pub is_plan : IsPlan options plan
  pub len : ℕ
  pub turns : it.journal.events ≡ take len (made plan plan.events)
  pub ends : EndsAfter options.cpus boot (made plan plan.events) len
  pub board : it.board ≡ after boot it.journal.events
  pub steps : it.steps ≡ steps_in it.journal.events
  pub order : it.journal.order ≡ boot.memory.order
  pub room : length (runs_of it.journal.events) ≤ most_runs

-- why they take none
abbrev pub KeepsFromTurns : TryOptions → CommandFault → Type 0
KeepsFromTurns options command.NoMemory = Unit {0}
KeepsFromTurns options (command.Schedule TooLong) = most_runs < options.steps
KeepsFromTurns options _ = ⊥

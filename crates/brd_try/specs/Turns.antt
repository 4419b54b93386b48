-- Turns of a board's processors, and where they end.
use Rattle.std.specs.Prelude.{◌≡◌, ◌⊎◌, ℕ, zero, suc, ◌<◌, ◌≤◌, Bool, true, false, ◌&&◌, ◌||◌, List, [], ◌∷◌, length}
use Rattle.std.specs.Prelude.{Option, None, Some}
use Rattle.brd_board.specs.Board.{BoardState, task_of}
use Rattle.brd_board.specs.declared.event.Event.{Event}
use Rattle.brd_board.specs.declared.event.Event.TheVariants.{Step, Tick, Raise}
use Rattle.brd_journal.specs.Playing.{board_at}
use Rattle.brd_schedule.specs.declared.plan.Plan.{Plan}
use Rattle.brd_schedule.specs.declared.plan.Rule.TheVariants.{InTurns}
use Rattle.brd_tasks.specs.declared.status.TaskState.{TaskState}
use Rattle.brd_tasks.specs.declared.status.TaskState.TheVariants.{Dormant, Ready, Waiting, Suspended, WaitingSuspended}
use Rattle.brd_tasks.specs.declared.task.TaskView.{TaskView}
use Rattle.brd_try.specs.declared.options.TryOptions.{TryOptions}

-- n events of these options' processors in turn, each of which is a step but where a tick comes
pub record IsPlan (options : TryOptions) (plan : Plan) : Type 0 where
  pub cpus : plan.cpus ≡ options.cpus
  pub events : plan.events ≡ options.steps
  pub ticks : plan.tick_every ≡ options.tick_every
  pub raises : plan.raises.now ≡ []
  pub rule : plan.rule ≡ InTurns 1

abbrev pub is_dormant : TaskState → Bool
is_dormant Dormant = true
is_dormant Ready = false
is_dormant Waiting = false
is_dormant Suspended = false
is_dormant WaitingSuspended = false

-- a task that is there has ended
abbrev pub has_ended : Option TaskView → Bool
has_ended None = true
has_ended (Some task) = is_dormant task.state

-- the tasks 1 to n have ended
abbrev pub have_ended : BoardState → ℕ → Bool
have_ended b zero = true
have_ended b (suc n) = have_ended b n && has_ended (task_of b (suc n))

-- nothing is left to do: the board is off, or all of its n tasks have ended
abbrev pub is_over : ℕ → BoardState → Bool
is_over tasks b = b.kernel.off || have_ended b tasks

-- of these events the first n are those after which nothing is left to do for the first time, or all of them
pub record EndsAfter (tasks : ℕ) (boot : BoardState) (events : List Event) (n : ℕ) : Type 0 where
  pub within : n ≤ length events
  pub before : (m : ℕ) → m < n → is_over tasks (board_at boot events m) ≡ false
  pub ends : (n ≡ length events) ⊎ (is_over tasks (board_at boot events n) ≡ true)

-- how many events are steps, of whichever processor
abbrev pub steps_in : List Event → ℕ
steps_in [] = 0
steps_in (Step cpu ∷ events) = suc (steps_in events)
steps_in (Tick ∷ events) = steps_in events
steps_in (Raise line ∷ events) = steps_in events

-- Which lists of events a plan allows, and which it makes (own choice). Events are counted from 1.
use Rattle.std.specs.Prelude.{◌≡◌, ℕ, zero, suc, ◌+◌, ◌%◌, ◌==◌, ◌≤◌, ◌<◌, nat_lt, ◌&&◌, if◌then◌else◌, List, []}
use Rattle.std.specs.Prelude.{◌∷◌, ◌++◌, length, Option, None, Some, is_none, unwrap_or, MatchOption}
use Rattle.brd_board.specs.declared.event.Event.{Event}
use Rattle.brd_board.specs.declared.event.Event.TheVariants.{Step, Tick, Raise}
use Rattle.brd_journal.specs.Journal.{most_runs}
use Rattle.brd_journal.specs.declared.fault.JournalFault.{JournalFault}
use Rattle.brd_journal.specs.declared.fault.JournalFault.TheVariants.{Full, NoMemory, Syntax}
use Rattle.brd_schedule.specs.Steps.{stepper}
use Rattle.brd_schedule.specs.declared.plan.Plan.{Plan}
use Rattle.brd_schedule.specs.declared.plan.Raise as asked

-- the line that is raised as the event of this number: the first that the plan names for it
abbrev pub raised : List asked.Raise → ℕ → Option ℕ
raised [] number = None
raised (raise ∷ raises) number = if raise.at == number then Some raise.line else raised raises number

abbrev pub or_tick : Plan → ℕ → Option ℕ → Option Event
or_tick plan number (Some line) = Some (Raise line)
or_tick plan number None = if nat_lt 0 plan.tick_every && number % plan.tick_every == 0 then Some Tick else None

-- the event of this number where it is no step: a raise, or else a tick at each multiple
abbrev pub fixed : Plan → ℕ → Option Event
fixed plan number = or_tick plan number (raised plan.raises.now number)

-- a step of one of the processors
abbrev pub IsStep : ℕ → Event → Type 0
IsStep cpus (Step cpu) = (1 ≤ cpu) × (cpu ≤ cpus)
IsStep cpus Tick = ⊥
IsStep cpus (Raise line) = ⊥

abbrev pub IsPlanned : Plan → ℕ → Event → Type 0
IsPlanned plan number event = MatchOption (fixed plan number) (IsStep plan.cpus event) (λ it. event ≡ it)

-- the events from the one of this number on
abbrev pub ArePlanned : Plan → ℕ → List Event → Type 0
ArePlanned plan number [] = Unit {0}
ArePlanned plan number (event ∷ events) = IsPlanned plan number event × ArePlanned plan (number + 1) events

-- the events of a plan: as many as it asks for, each a raise, a tick or a step as it says
abbrev pub IsMade : Plan → List Event → Type 0
IsMade plan events = (length events ≡ plan.events) × ArePlanned plan 1 events

-- one step more, where the event of this number is a step
abbrev pub steps_on : Plan → ℕ → ℕ → ℕ
steps_on plan number steps = if is_none (fixed plan number) then steps + 1 else steps

-- how many of the first n events are steps
abbrev pub steps_among : Plan → ℕ → ℕ
steps_among plan zero = 0
steps_among plan (suc n) = steps_on plan (suc n) (steps_among plan n)

-- the event of this number, before which there are n steps
abbrev pub event_of : Plan → ℕ → ℕ → Event
event_of plan steps number = unwrap_or (fixed plan number) (Step (stepper plan steps))

-- the first n events of a plan
abbrev pub made : Plan → ℕ → List Event
made plan zero = []
made plan (suc n) = made plan n ++ event_of plan (steps_among plan n) (suc n) ∷ []

-- Why a plan can't be made: memory ran out, or its events need more runs than a journal may have, and so are more.
abbrev pub EndsMaking : Plan → JournalFault → Type 0
EndsMaking plan NoMemory = Unit {0}
EndsMaking plan Full = most_runs < plan.events
EndsMaking plan (Syntax line) = ⊥

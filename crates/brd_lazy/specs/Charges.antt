-- What schedules take of bounds.
use Rattle.std.specs.Prelude.{ℕ, ◌+◌, ◌≤◌, if◌then◌else◌, List, [], ◌∷◌, Option}
use Rattle.brd_board.specs.declared.event.Event.{Event}
use Rattle.brd_board.specs.declared.event.Event.TheVariants.{Step, Tick, Raise}
use Rattle.brd_explore.specs.Schedules.{Place, does, preempts, one_if, next}

-- how many events a schedule has, and of these how many preempt, how many are ticks and how many are raises
pub record Charge : Type 0 where
  pub events : ℕ
  pub preemptions : ℕ
  pub ticks : ℕ
  pub raises : ℕ

abbrev pub nothing : Charge
nothing = record { events = 0; preemptions = 0; ticks = 0; raises = 0 }

-- with one event before them, after which this processor was the last one to step
abbrev pub charged : Charge → Option ℕ → Event → Charge
charged c last (Step cpu) =
    record c { events = c.events + 1; preemptions = c.preemptions + one_if (preempts last cpu) }
charged c last Tick = record c { events = c.events + 1; ticks = c.ticks + 1 }
charged c last (Raise line) = record c { events = c.events + 1; raises = c.raises + 1 }

-- Those of a list of events from a place. An event that does nothing counts as none.
abbrev pub charge : Place → List Event → Charge
charge p [] = nothing
charge p (event ∷ events) =
    if does p.board event then charged (charge (next p event) events) p.last event else charge p events

-- no more of each
pub record IsNoMore (one other : Charge) : Type 0 where
  pub events : one.events ≤ other.events
  pub preemptions : one.preemptions ≤ other.preemptions
  pub ticks : one.ticks ≤ other.ticks
  pub raises : one.raises ≤ other.raises

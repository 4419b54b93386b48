-- Schedules of a board within bounds: which event may come, and what each takes of the bounds.
use Rattle.std.specs.Prelude.{◌≡◌, ℕ, ◌-◌, ◌<◌, ◌≤◌, nat_lt, ◌==◌, Bool, true, false, not, ◌&&◌, ◌||◌, if◌then◌else◌}
use Rattle.std.specs.Prelude.{List}
use Rattle.std.specs.Prelude.{[], ◌∷◌, length, slice_index_or, Option, Some, None, is_some}
use Rattle.brd_board.specs.declared.event.Event.{Event}
use Rattle.brd_board.specs.declared.event.Event.TheVariants.{Step, Tick, Raise}
use Rattle.brd_board.specs.Board.{BoardState, happens, registers_of}
use Rattle.brd_journal.specs.Still.{did_nothing}
use Rattle.brd_explore.specs.declared.bounds.Bounds.{Bounds}

-- An event does something, unless it reports that it has done nothing.
unfoldable pub does : BoardState → Event → Bool
does b event = not (did_nothing (happens b event).report)

-- Which processor a step of another one would preempt, after an event that has led to a board: the one that has stepped
-- last, if somebody executed there right after its step. Ticks and raises are nobody's steps. To leave a processor that
-- can't go on is free (Musuvathi and Qadeer, Iterative Context Bounding, 2007); so is leaving one on which nobody
-- executes, though an interrupt is about to be accepted there (own choice).
abbrev pub stepper : BoardState → Option ℕ → Event → Option ℕ
stepper b last (Step cpu) = if is_some (registers_of b cpu) then Some cpu else None
stepper b last Tick = last
stepper b last (Raise line) = last

abbrev pub is_last : Option ℕ → ℕ → Bool
is_last None cpu = false
is_last (Some last) cpu = last == cpu

abbrev pub preempts : Option ℕ → ℕ → Bool
preempts None cpu = false
preempts (Some last) cpu = not (last == cpu)

-- Something is left of the bounds for an event: an event, and a preemption where it preempts, a tick or a raise.
abbrev pub affords_one : Bounds → Option ℕ → Event → Bool
affords_one left last (Step cpu) = nat_lt 0 left.preemptions || not (preempts last cpu)
affords_one left last Tick = nat_lt 0 left.ticks
affords_one left last (Raise line) = nat_lt 0 left.raises

unfoldable pub affords : Bounds → Option ℕ → Event → Bool
affords left last event = nat_lt 0 left.events && affords_one left last event

-- what is left after it
abbrev pub one_if : Bool → ℕ
one_if true = 1
one_if false = 0

unfoldable pub spent : Bounds → Option ℕ → Event → Bounds
spent left last (Step cpu) =
    record left { events = left.events - 1; preemptions = left.preemptions - one_if (preempts last cpu) }
spent left last Tick = record left { events = left.events - 1; ticks = left.ticks - 1 }
spent left last (Raise line) =
    record left { events = left.events - 1; raises = left.raises - 1; owed = left.owed - 1 }

-- A place on a schedule: the board, what is left of the bounds, and which processor a step of another one preempts.
pub record Place : Type 0 where
  pub board : BoardState
  pub left : Bounds
  pub last : Option ℕ

-- where a schedule begins
abbrev pub start : BoardState → Bounds → Place
start b bounds = record { board = b; left = bounds; last = None }

abbrev pub is_left : Place → Event → Bool
is_left p event = affords p.left p.last event

-- the place after an event that does something
abbrev pub next : Place → Event → Place
next p event =
    record {
      board = (happens p.board event).board;
      left = spent p.left p.last event;
      last = stepper (happens p.board event).board p.last event;
    }

-- The place after a list of events. An event that does nothing is nobody's, and takes nothing of the bounds.
abbrev pub place_after : Place → List Event → Place
place_after p [] = p
place_after p (event ∷ events) = if does p.board event then place_after (next p event) events else place_after p events

abbrev pub event_at : List Event → ℕ → Event
event_at among k = slice_index_or among k Tick

-- an event is one of those that may come at all
pub record IsAmong (among : List Event) (event : Event) : Type 0 where
  pub at : ℕ
  pub within : at < length among
  pub is : event_at among at ≡ event

-- A list of events is within bounds where of those that do something each is one of the events that may come, and
-- something is left for it by those before.
abbrev pub IsWithin : List Event → Place → List Event → Type 0
IsWithin among p [] = Unit {0}
IsWithin among p (event ∷ events) =
    (does p.board event ≡ true → IsAmong among event × (is_left p event ≡ true) × IsWithin among (next p event) events)
    × (does p.board event ≡ false → IsWithin among p events)

-- Of the same place no less is left, and as many raises are owed.
pub record IsRicher (rich poor : Place) : Type 0 where
  pub board : rich.board ≡ poor.board
  pub last : rich.last ≡ poor.last
  pub events : poor.left.events ≤ rich.left.events
  pub preemptions : poor.left.preemptions ≤ rich.left.preemptions
  pub ticks : poor.left.ticks ≤ rich.left.ticks
  pub raises : poor.left.raises ≤ rich.left.raises
  pub owed : rich.left.owed ≡ poor.left.owed

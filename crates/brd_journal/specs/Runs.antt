-- The runs of a list of events (own choice): its longest stretches of equal events, each cut from the front into pieces
-- of the greatest count.
use Rattle.std.specs.Prelude.{◌≡◌, ℕ, zero, suc, ◌+◌, ◌/◌, ◌%◌, ◌<◌, ◌≤◌, ◌==◌, Bool, true, false, if◌then◌else◌, List}
use Rattle.std.specs.Prelude.{[], ◌∷◌, ◌++◌, length, drop, replicate, Option, None, Some}
use Rattle.std.specs.List.{flat_map}
use Rattle.brd_board.specs.declared.event.Event.{Event}
use Rattle.brd_board.specs.declared.event.Event.TheVariants.{Step, Tick, Raise}
use Rattle.brd_journal.specs.declared.run.Run.{Run}

-- the greatest count of a run: what 32 bits hold
abbrev pub most_count : ℕ
most_count = 0xffffffff

-- an event, n times
unfoldable pub copies : Event → ℕ → List Event
copies event count = replicate count event

-- the events that runs stand for
abbrev pub events_of : List Run → List Event
events_of runs = flat_map (λ run. copies run.event run.count) runs

-- whether two events are the same
abbrev pub same_event : Event → Event → Bool
same_event (Step cpu) (Step other) = cpu == other
same_event (Step cpu) Tick = false
same_event (Step cpu) (Raise line) = false
same_event Tick (Step cpu) = false
same_event Tick Tick = true
same_event Tick (Raise line) = false
same_event (Raise line) (Step cpu) = false
same_event (Raise line) Tick = false
same_event (Raise line) (Raise other) = line == other

-- stretches, with one more event at the front
abbrev pub with_first : Event → List Run → List Run
with_first event [] = record { event = event; count = 1 } ∷ []
with_first event (stretch ∷ stretches) =
    if same_event event stretch.event then record { event = event; count = stretch.count + 1 } ∷ stretches
    else record { event = event; count = 1 } ∷ stretch ∷ stretches

-- the longest stretches of equal events
abbrev pub stretches_of : List Event → List Run
stretches_of [] = []
stretches_of (event ∷ events) = with_first event (stretches_of events)

-- a run of this count, none where the count is 0
abbrev pub run_of_count : Event → ℕ → List Run
run_of_count event zero = []
run_of_count event (suc n) = record { event = event; count = suc n } ∷ []

-- a stretch, cut from the front into runs of the greatest count, and one of what is left
abbrev pub cut : Run → List Run
cut stretch =
    replicate (stretch.count / most_count) (record { event = stretch.event; count = most_count })
    ++ run_of_count stretch.event (stretch.count % most_count)

-- the runs of a list of events
unfoldable pub runs_of : List Event → List Run
runs_of events = flat_map cut (stretches_of events)

-- the event of the first run
abbrev pub first_event : List Run → Option Event
first_event [] = None
first_event (run ∷ runs) = Some run.event

-- Each run has a count from 1 to the greatest, and the next run has another event, unless the count is the greatest.
abbrev pub AreCut : List Run → Type 0
AreCut [] = Unit {0}
AreCut (run ∷ runs) =
    (1 ≤ run.count) × (run.count ≤ most_count) × (first_event runs ≡ Some run.event → run.count ≡ most_count)
    × AreCut runs

-- These runs stand for the events, and are cut so. That just one list of runs does and is, is proved as
-- `laws::events_have_one_list_of_runs`.
pub record AreRunsOf (events : List Event) (runs : List Run) : Type 0 where
  pub same : events_of runs ≡ events
  pub cut : AreCut runs

-- the position of each run's first event, where the first run begins at this one
abbrev pub starts_from : ℕ → List Run → List ℕ
starts_from start [] = []
starts_from start (run ∷ runs) = start ∷ starts_from (start + run.count) runs

-- where each run begins: how many events stand before it
abbrev pub starts_of : List Run → List ℕ
starts_of runs = starts_from 0 runs

-- What is left of one of these runs after n events: the run has begun there and hasn't ended, and the rest has
-- its event and ends where it ends.
pub record IsRestOfRun (runs : List Run) (others : ℕ) (rest : Run) : Type 0 where
  pub before : List Run
  pub run : Run
  pub behind : List Run
  pub among : runs ≡ before ++ run ∷ behind
  pub begun : length (events_of before) ≤ others
  pub unended : others < length (events_of before) + run.count
  pub event : rest.event ≡ run.event
  pub ends : others + rest.count ≡ length (events_of before) + run.count

-- What is left after n events of the run that the next event belongs to. None after the last event.
abbrev pub IsRest : List Event → ℕ → Option Run → Type 0
IsRest events others None = length events ≤ others
IsRest events others (Some rest) = IsRestOfRun (runs_of events) others rest

-- after n events an event comes at least n times
abbrev pub ComesBehind : List Event → ℕ → Run → Type 0
ComesBehind events others run =
    (1 ≤ run.count) × (drop others events ≡ copies run.event run.count ++ drop (others + run.count) events)

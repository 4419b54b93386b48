-- Turns of processors in a list of events: from one switch to the next.
use Rattle.std.specs.Prelude.{◌≡◌, ℕ, ◌+◌, ◌<◌, ◌≤◌, ◌==◌, Bool, true, false, not, ◌||◌, List, [], ◌∷◌, ◌++◌, length}
use Rattle.std.specs.Prelude.{take}
use Rattle.std.specs.Prelude.{drop, slice_range, slice_index_or, Option, Some, None}
use Rattle.brd_board.specs.declared.event.Event.{Event}
use Rattle.brd_board.specs.declared.event.Event.TheVariants.{Step, Tick, Raise}

-- Whose the last step is after one more event, where it was this processor's before, or nobody's: ticks and raises are
-- nobody's steps.
abbrev pub stepper : Option ℕ → Event → Option ℕ
stepper last (Step cpu) = Some cpu
stepper last Tick = last
stepper last (Raise line) = last

abbrev pub is_other : Option ℕ → ℕ → Bool
is_other None cpu = false
is_other (Some last) cpu = not (cpu == last)

-- An event is a switch where it is a step of another processor than the last step before it. (So the first step of all
-- is none.)
abbrev pub is_switch : Option ℕ → Event → Bool
is_switch last (Step cpu) = is_other last cpu
is_switch last Tick = false
is_switch last (Raise line) = false

abbrev pub one_if : Bool → ℕ
one_if true = 1
one_if false = 0

-- how many switches a list has, after a step of this processor, or of none
abbrev pub switches_after : Option ℕ → List Event → ℕ
switches_after last [] = 0
switches_after last (event ∷ events) = one_if (is_switch last event) + switches_after (stepper last event) events

unfoldable pub switches : List Event → ℕ
switches events = switches_after None events

-- whose the last step of a list is, after a step of this processor, or of none
abbrev pub stepper_after : Option ℕ → List Event → Option ℕ
stepper_after last [] = last
stepper_after last (event ∷ events) = stepper_after (stepper last event) events

abbrev pub event_at : List Event → ℕ → Event
event_at events k = slice_index_or events k Tick

-- A list is cut into turns at its beginning, at its end, and before each switch.
unfoldable pub is_cut : List Event → ℕ → Bool
is_cut events k = k == 0 || (k == length events || is_switch (stepper_after None (take k events)) (event_at events k))

-- A turn is what lies from one cut to the next: steps of one processor, and ticks and raises between and after them.
pub record IsTurn (events : List Event) (from to : ℕ) : Type 0 where
  pub some : from < to
  pub within : to ≤ length events
  pub begins : is_cut events from ≡ true
  pub ends : is_cut events to ≡ true
  pub whole : (k : ℕ) → from < k → k < to → is_cut events k ≡ false

-- the events where two stretches that follow one another have changed places: one from an index up to before a middle
-- one, the other from there up to before a third one
abbrev pub swapped : List Event → ℕ → ℕ → ℕ → List Event
swapped events from middle to =
    take from events ++ (slice_range events middle to ++ (slice_range events from middle ++ drop to events))

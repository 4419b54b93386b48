-- In which order a search tries the events at a place. (Contracts of private functions alone name this.)
--
-- The step of the processor that has stepped last comes last: it is the one that costs nothing, and of a place where
-- nothing else is left to be tried no copy is kept. So the copies that are kept at a time are as many as the path has
-- preemptions, ticks, raises, and steps after which nobody executed on the processor.
use Rattle.std.specs.Prelude.{ℕ, ◌+◌, ◌-◌, nat_lt, Bool, false, if◌then◌else◌, List, [], ◌∷◌, length, Option}
use Rattle.brd_board.specs.declared.event.Event.{Event}
use Rattle.brd_board.specs.declared.event.Event.TheVariants.{Step, Tick, Raise}
use Rattle.brd_explore.specs.Schedules.{event_at, is_last}

-- an event is a step of the processor that has stepped last
abbrev pub is_own : Option ℕ → Event → Bool
is_own last (Step cpu) = is_last last cpu
is_own last Tick = false
is_own last (Raise line) = false

-- how many events a list has up to that step, and with it; all of them, if it isn't there
abbrev pub up_to_own : Option ℕ → List Event → ℕ
up_to_own last [] = 0
up_to_own last (event ∷ events) = if is_own last event then 1 else 1 + up_to_own last events

-- the index, in a list of this length, of what is at a position behind the first ones, which come after the others
abbrev pub turned : ℕ → ℕ → ℕ → ℕ
turned len first at = if nat_lt (first + at) len then first + at else first + at - len

-- the event of a list that is tried at a position
abbrev pub event_tried : List Event → Option ℕ → ℕ → Event
event_tried among last at = event_at among (turned (length among) (up_to_own last among) at)

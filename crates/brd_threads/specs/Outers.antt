-- Events by where they come from: a processor's steps, and what comes from outside.
use Rattle.std.specs.Prelude.{ℕ, ◌==◌, Bool, false, List, Option, None, Some}
use Rattle.std.specs.List.{count_by, filter_map}
use Rattle.brd_board.specs.declared.event.Event.{Event}
use Rattle.brd_board.specs.declared.event.Event.TheVariants.{Step, Tick, Raise}
use Rattle.brd_threads.specs.declared.outer.Outer.{Outer}
use Rattle.brd_threads.specs.declared.outer.Outer.TheVariants as outer

-- the event that an entry of a script is for the board
abbrev pub event_of : Outer → Event
event_of outer.Tick = Tick
event_of (outer.Raise line) = Raise line

-- the entry that an event is, where it comes from outside
abbrev pub outer_of : Event → Option Outer
outer_of (Step cpu) = None
outer_of Tick = Some outer.Tick
outer_of (Raise line) = Some (outer.Raise line)

-- what comes from outside among events
abbrev pub outers : List Event → List Outer
outers events = filter_map outer_of events

-- whether an event is a step of a processor
abbrev pub is_step_of : ℕ → Event → Bool
is_step_of cpu (Step other) = other == cpu
is_step_of cpu Tick = false
is_step_of cpu (Raise line) = false

-- how many steps of a processor there are among events
abbrev pub steps : ℕ → List Event → ℕ
steps cpu events = count_by (is_step_of cpu) events

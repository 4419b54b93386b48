-- The deeds of an event, and of a run.
use Rattle.std.specs.Prelude.{◌++◌, ◌+◌, nat_lt, ℕ, false, if◌then◌else◌, List, [], ◌∷◌, Option, None, Some, unwrap_or}
use Rattle.brd_kernel.specs.declared.processor.Standing.{Standing}
use Rattle.brd_config.specs.declared.objects.QueueConfig.{QueueConfig}
use Rattle.brd_board.specs.declared.event.Event.{Event}
use Rattle.brd_board.specs.Board.{BoardState, happens}
use Rattle.brd_happening.specs.declared.release.Release.{Release}
use Rattle.brd_happening.specs.declared.happening.{What.What, Happening.Happening}
use Rattle.brd_happening.specs.declared.happening.What.TheVariants as what
use Rattle.brd_happening.specs.Happening.{happening_of}
use Rattle.brd_order.specs.declared.deed.Deed.{Deed}
use Rattle.brd_deeds.specs.declared.past.{Stamp.Stamp, Past.Past}
use Rattle.brd_deeds.specs.declared.log.{Doer.Doer, Log.Log}
use Rattle.brd_deeds.specs.Past.{past_of}
use Rattle.brd_deeds.specs.Acts.{acquires_cpu, begins_started, with_lock}
use Rattle.brd_deeds.specs.Trails.{settled, executes, settles_below}
use Rattle.brd_deeds.specs.Calls.{calls, ends, released}

-- a task's strand is its ID, a handler's 256 and its line
abbrev pub strand_of : Option Standing → Option ℕ
strand_of (Some (Standing.Task id)) = Some id
strand_of (Some (Standing.Handler line)) = Some (256 + line)
strand_of (Some Standing.Idle) = None
strand_of (Some Standing.Stopped) = None
strand_of None = None

-- An exception ends a task; a handler is stopped with its processor for good, which is CPU-locked no more. But nothing
-- is released by that, nor into a spin lock that it holds.
abbrev pub faults : Doer → Log → Log
faults doer log =
    if nat_lt doer.strand 256 then ends doer (settled doer.strand log)
    else with_lock false doer (settled doer.strand log)

-- what who executes does in an event
abbrev pub acts_in : Doer → What → BoardState → Log → Log
acts_in doer (what.Instruction instruction) after log = executes doer instruction log
acts_in doer (what.Call made) after log = calls doer made after log
acts_in doer (what.Exception exception) after log = faults doer log
acts_in doer _ after log = log

abbrev pub acts_by_strand : Stamp → ℕ → Option ℕ → What → BoardState → Log → Log
acts_by_strand stamp cpu None what after log = log
acts_by_strand stamp cpu (Some strand) what after log =
    acts_in (record { strand = strand; cpu = cpu; stamp = stamp }) what after log

-- a handler that begins comes after all CPU locks of its processor, after its handlers before, and after its starts
abbrev pub begins : Doer → Log → Log
begins doer log = begins_started doer (acquires_cpu doer log)

abbrev pub acts_on : Stamp → ℕ → Option ℕ → What → BoardState → Log → Log
acts_on stamp cpu strand (what.Accepted line) after log =
    begins (record { strand = 256 + line; cpu = cpu; stamp = stamp }) log
acts_on stamp cpu strand other after log = acts_by_strand stamp cpu strand other after log

abbrev pub acts_at : Stamp → Option ℕ → Option ℕ → What → BoardState → Log → Log
acts_at stamp None strand what after log = log
acts_at stamp (Some cpu) strand what after log = acts_on stamp cpu strand what after log

-- the tasks, one after the other, whose waits an event ended, by a call of this strand
abbrev pub all_released : Stamp → Option ℕ → List Release → Log → Log
all_released stamp caller [] log = log
all_released stamp caller (release ∷ releases) log =
    all_released stamp caller releases (released stamp caller release log)

abbrev pub stamp_of : ℕ → Happening → Stamp
stamp_of position told = record { event = position; place = unwrap_or told.place 0 }

-- What who executes does in an event, and then what the tasks do whose waits it ended, by ascending ID: by what happens
-- in it, its position, the board after it, and what was remembered before it.
abbrev pub deeds_of : ℕ → Happening → BoardState → Past → Log
deeds_of position told after past =
    all_released (stamp_of position told) (strand_of told.who) told.released
    (acts_at (stamp_of position told) told.cpu (strand_of told.who) told.what after
    (record { past = past; deeds = [] }))

-- by the board before an event
abbrev pub deeds_in : ℕ → Past → BoardState → Event → Log
deeds_in position past b event = deeds_of position (happening_of b event) (happens b event).board past

-- the deeds of the one, and those of the other after it
abbrev pub and_then : Log → Log → Log
and_then one other = record { past = other.past; deeds = one.deeds ++ other.deeds }

-- of a list of events, from a board at a position on, and what is remembered after them
abbrev pub deeds_from : ℕ → Past → BoardState → List Event → Log
deeds_from position past b [] = record { past = past; deeds = [] }
deeds_from position past b (event ∷ events) =
    and_then (deeds_in position past b event)
    (deeds_from (position + 1) (deeds_in position past b event).past (happens b event).board events)

-- The deeds of a run: of its events, and at its end the loads of which then is known that no SYNC follows, by ascending
-- strand: of 256 tasks and 160 handlers.

abbrev pub deeds_to_end : Log → List Deed
deeds_to_end log = (settles_below 416 log).deeds

abbrev pub deeds_of_run : List QueueConfig → BoardState → List Event → List Deed
deeds_of_run queues boot events = deeds_to_end (deeds_from 0 (past_of queues) boot events)

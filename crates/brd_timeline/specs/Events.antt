-- A timeline as trace events in JSON ("Trace Event Format", Google). A lane is a thread, and one event of the board is
-- one microsecond.
use Rattle.std.specs.Prelude.{ℕ, ◌+◌, ◌-◌, ◌^◌, min, length, ◌==◌, if◌then◌else◌}
use Rattle.std.specs.Prelude.{List, [], ◌∷◌, ◌++◌, map, codes, Option, None, Some}
use Rattle.std.specs.List.{slice_get, flat_map, join_by, enumerate_from}
use Rattle.std.specs.Fmt.{decimal}
use Rattle.brd_timeline.specs.Escapes.{json_string}
use Rattle.brd_timeline.specs.Names.{kind_name, mark_name, slice_name, mark_label}
use Rattle.brd_timeline.specs.declared.timeline.Group.{Group}
use Rattle.brd_timeline.specs.declared.timeline.Lane.{Lane}
use Rattle.brd_timeline.specs.declared.timeline.Slice.{Slice}
use Rattle.brd_timeline.specs.declared.timeline.Mark.{Mark}
use Rattle.brd_timeline.specs.declared.timeline.Hold.{Hold}
use Rattle.brd_timeline.specs.declared.timeline.Spinning.{Spinning}
use Rattle.brd_timeline.specs.declared.timeline.Owning.{Owning}
use Rattle.brd_timeline.specs.declared.timeline.Turn.{Turn}
use Rattle.brd_timeline.specs.declared.timeline.Timeline.{Timeline}
use Rattle.brd_timeline.specs.declared.trace_events.Track.{Track}
use Rattle.brd_timeline.specs.declared.timeline.Group.TheVariants as group

pub data TraceEvent : Type 0 where
  -- a process is called so
  ProcessName : ℕ → List ℕ → TraceEvent
  -- a thread is called so
  ThreadName : Track → List ℕ → TraceEvent
  -- a thread's place among the others of its process is its number
  ThreadOrder : Track → TraceEvent
  -- a stretch: where it begins and ends, its category and its name
  Complete : Track → ℕ → ℕ → List ℕ → List ℕ → TraceEvent
  -- a point: where it is, its category and its name
  Instant : Track → ℕ → List ℕ → List ℕ → TraceEvent

-- ---- an event's object

-- how it begins: its phase and its track
abbrev pub head_text : List ℕ → Track → List ℕ
head_text phase track =
    codes "{\"ph\":\"" ++ phase ++ codes "\",\"pid\":" ++ decimal track.process ++ codes ",\"tid\":"
    ++ decimal track.thread

-- where it begins, of which category it is, and what follows is its name
abbrev pub start_text : ℕ → List ℕ → List ℕ
start_text at category = codes ",\"ts\":" ++ decimal at ++ codes ",\"cat\":\"" ++ category ++ codes "\",\"name\":"

-- an event of a stretch, and one of a point, up to its name
abbrev pub complete_text : Track → ℕ → ℕ → List ℕ → List ℕ
complete_text track from to category =
    head_text (codes "X") track ++ codes ",\"dur\":" ++ decimal (to - from) ++ start_text from category

abbrev pub instant_text : Track → ℕ → List ℕ → List ℕ
instant_text track at category = head_text (codes "i") track ++ codes ",\"s\":\"t\"" ++ start_text at category

abbrev pub event_text : TraceEvent → List ℕ
event_text (ProcessName process name) =
    codes "{\"ph\":\"M\",\"pid\":" ++ decimal process ++ codes ",\"name\":\"process_name\",\"args\":{\"name\":"
    ++ json_string name ++ codes "}}"
event_text (ThreadName track name) =
    head_text (codes "M") track ++ codes ",\"name\":\"thread_name\",\"args\":{\"name\":" ++ json_string name
    ++ codes "}}"
event_text (ThreadOrder track) =
    head_text (codes "M") track ++ codes ",\"name\":\"thread_sort_index\",\"args\":{\"sort_index\":"
    ++ decimal track.thread ++ codes "}}"
event_text (Complete track from to category name) =
    complete_text track from to category ++ json_string name ++ codes "}"
event_text (Instant track at category name) = instant_text track at category ++ json_string name ++ codes "}"

-- ---- the events of a timeline

-- the processes: that of a group of lanes, and those of the ticks, the spin locks, the turns and the mutexes
abbrev pub process_of : Group → ℕ
process_of group.Processor = 1
process_of group.Task = 2

abbrev pub ticks : ℕ
ticks = 3

abbrev pub locks : ℕ
locks = 4

abbrev pub turns : ℕ
turns = 5

abbrev pub mutexes : ℕ
mutexes = 6

-- the thread of a place from 0 on: they count from 1 on
abbrev pub thread_of : ℕ → ℕ
thread_of place = min (place + 1) (2 ^ 64 - 1)

abbrev pub track_of : Lane → ℕ → Track
track_of lane place = record { process = process_of lane.group; thread = thread_of place }

-- the one thread of a process
abbrev pub only_track : ℕ → Track
only_track process = record { process = process; thread = 1 }

abbrev pub lock_track : ℕ → Track
lock_track place = record { process = locks; thread = thread_of place }

abbrev pub mutex_track : ℕ → Track
mutex_track place = record { process = mutexes; thread = thread_of place }

-- an event of a lane, where there is one
abbrev pub in_lane : (Lane → TraceEvent) → Option Lane → List TraceEvent
in_lane event None = []
in_lane event (Some lane) = event lane ∷ []

abbrev pub numbered : List ℕ → ℕ → List ℕ
numbered name number = name ++ decimal number

abbrev pub processes : List TraceEvent
processes =
    ProcessName 1 (codes "processors") ∷ ProcessName 2 (codes "tasks") ∷ ProcessName ticks (codes "ticks")
    ∷ ThreadName (only_track ticks) (codes "ticks") ∷ []

-- the thread of a lane
abbrev pub lane_events : ℕ × Lane → List TraceEvent
lane_events (place, lane) =
    ThreadName (track_of lane place) lane.name.items ∷ ThreadOrder (track_of lane place) ∷ []

-- a slice in its lane, by its label or the name of its kind
abbrev pub slice_events : List Lane → Slice → List TraceEvent
slice_events lanes slice =
    in_lane (λ lane. Complete (track_of lane slice.lane) slice.from slice.to (kind_name slice.kind) (slice_name slice))
    (slice_get lanes slice.lane)

-- a mark in its lane, by its label or the name of its kind
abbrev pub mark_events : List Lane → Mark → List TraceEvent
mark_events lanes mark =
    in_lane (λ lane. Instant (track_of lane mark.lane) mark.at (mark_name mark.kind) (mark_label mark))
    (slice_get lanes mark.lane)

-- a tick by its number: that of the first one is given
abbrev pub numbered_tick : ℕ → ℕ → TraceEvent
numbered_tick number at = Instant (only_track ticks) at (codes "tick") (numbered (codes "tick ") number)

abbrev pub tick_event : ℕ → ℕ × ℕ → TraceEvent
tick_event first (place, at) = numbered_tick (min (first + place) (2 ^ 64 - 1)) at

-- the thread of a spin lock, who holds it, and who asks for it
abbrev pub lock_event : ℕ × ℕ → TraceEvent
lock_event (place, lock) = ThreadName (lock_track place) (numbered (codes "lock ") lock)

abbrev pub hold_event : Hold → TraceEvent
hold_event hold =
    Complete (lock_track hold.lock) hold.from hold.to (codes "held") (numbered (codes "held by cpu ") hold.cpu)

abbrev pub spin_name : Spinning → List ℕ
spin_name it = numbered (codes "spins for lock ") it.lock

abbrev pub spin_events : List Lane → Spinning → List TraceEvent
spin_events lanes it =
    in_lane (λ lane. Complete (track_of lane it.lane) it.from it.to (codes "spins") (spin_name it))
    (slice_get lanes it.lane)

-- the thread of a mutex, and who has it
abbrev pub mutex_event : ℕ × ℕ → TraceEvent
mutex_event (place, mutex) = ThreadName (mutex_track place) (numbered (codes "mutex ") mutex)

abbrev pub owning_event : Owning → TraceEvent
owning_event it =
    Complete (mutex_track it.mutex) it.from it.to (codes "held") (numbered (codes "held by task ") it.task)

abbrev pub turn_event : Turn → TraceEvent
turn_event turn = Complete (only_track turns) turn.from turn.to (codes "turn") (numbered (codes "cpu ") turn.cpu)

-- those of the lanes, of the slices and the marks in them, and of the ticks
abbrev pub lanes_of : Timeline → List TraceEvent
lanes_of timeline = flat_map lane_events (enumerate_from 0 timeline.lanes.items)

abbrev pub slices_of : Timeline → List TraceEvent
slices_of timeline = flat_map (slice_events timeline.lanes.items) timeline.slices.items

abbrev pub marks_of : Timeline → List TraceEvent
marks_of timeline = flat_map (mark_events timeline.lanes.items) timeline.marks.items

abbrev pub ticks_of : Timeline → List TraceEvent
ticks_of timeline = map (tick_event timeline.first_tick) (enumerate_from 0 timeline.ticks.items)

-- those of the spin locks, of who holds them and of who asks for them, of the mutexes and of who has them, and of the
-- turns
abbrev pub locks_of : Timeline → List TraceEvent
locks_of timeline = map lock_event (enumerate_from 0 timeline.locks.items)

abbrev pub holds_of : Timeline → List TraceEvent
holds_of timeline = map hold_event timeline.holds.items

abbrev pub spins_of : Timeline → List TraceEvent
spins_of timeline = flat_map (spin_events timeline.lanes.items) timeline.spins.items

abbrev pub mutexes_of : Timeline → List TraceEvent
mutexes_of timeline = map mutex_event (enumerate_from 0 timeline.mutexes.items)

abbrev pub owned_of : Timeline → List TraceEvent
owned_of timeline = map owning_event timeline.owned.items

abbrev pub turns_of : Timeline → List TraceEvent
turns_of timeline = map turn_event timeline.turns.items

-- the process of the spin locks, if there are any, that of the mutexes, and that of the turns
abbrev pub lock_events : Timeline → List TraceEvent
lock_events timeline =
    if length timeline.locks.items == 0 then []
    else ProcessName locks (codes "spin locks") ∷ locks_of timeline ++ holds_of timeline ++ spins_of timeline

abbrev pub mutex_events : Timeline → List TraceEvent
mutex_events timeline =
    if length timeline.mutexes.items == 0 then []
    else ProcessName mutexes (codes "mutexes") ∷ mutexes_of timeline ++ owned_of timeline

abbrev pub turn_events : Timeline → List TraceEvent
turn_events timeline =
    if length timeline.turns.items == 0 then []
    else ProcessName turns (codes "turns") ∷ ThreadName (only_track turns) (codes "turn") ∷ turns_of timeline

-- all of them
abbrev pub events_of : Timeline → List TraceEvent
events_of timeline =
    processes ++ lanes_of timeline ++ slices_of timeline ++ marks_of timeline ++ ticks_of timeline
    ++ lock_events timeline ++ mutex_events timeline ++ turn_events timeline

-- ---- the text

-- events that follow others, each on a line of its own
abbrev pub behind : List TraceEvent → List ℕ
behind events = flat_map (λ event. codes ",\n" ++ event_text event) events

-- events, each on a line of its own, with commas between them
abbrev pub joined : List TraceEvent → List ℕ
joined events = join_by event_text (codes ",\n") events

unfoldable pub json_text : Timeline → List ℕ
json_text timeline =
    codes "{\"displayTimeUnit\":\"ms\",\"traceEvents\":[\n" ++ joined (events_of timeline) ++ codes "\n]}\n"

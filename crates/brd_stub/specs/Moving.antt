-- Where a move of a session ends.
use Rattle.std.specs.Prelude.{◌≡◌, ℕ, ◌+◌, ◌-◌, ◌<◌, ◌==◌, min, Bool, true, false, not, ◌&&◌, ◌||◌, if◌then◌else◌}
use Rattle.std.specs.Prelude.{List, length, Option, Some, None}
use Rattle.brd_debug.specs.declared.stops.Stepper.{Stepper}
use Rattle.brd_debug.specs.declared.stops.Only.{Only}
use Rattle.brd_debug.specs.declared.look.Look.{Look}
use Rattle.brd_debug.specs.Debugger.{DebuggerState, SeesAhead, shown}
use Rattle.brd_debug.specs.Stops.{IsStop, IsLeast, IsGreatest, NoneFrom}
use Rattle.brd_stub.specs.declared.points.Point.{Point}
use Rattle.brd_stub.specs.declared.halt.Reason.{Reason}
use Rattle.brd_stub.specs.declared.halt.Stop.{Stop}
use Rattle.brd_stub.specs.declared.halt.Told.{Told}
use Rattle.brd_stub.specs.declared.halt.Told.TheVariants as told
use Rattle.brd_stub.specs.declared.seeking.Search.{Search}
use Rattle.brd_stub.specs.declared.stepping.Stepped.{Stepped}
use Rattle.brd_stub.specs.Points.{stops_for}
use Rattle.brd_stub.specs.declared.threads.Thread.{Thread}
use Rattle.brd_stub.specs.declared.threads.Whose.{Whose}
use Rattle.brd_stub.specs.Threads.{stepped_thread, standing_thread}
use Rattle.brd_stub.specs.Reasons.{thread_of, watched, hides_break, hides_exception, hides_watch}
use Rattle.brd_stub.specs.Reasons.{told_ahead, reason_for}

-- The debugger, while a move steps somebody, or nobody: it stops at the points that are set, at exceptions, and where
-- he is stepped, and nowhere else.
abbrev pub stepping : List Point → Stepped → DebuggerState → DebuggerState
stepping points it d =
    record d { stops = stops_for points it }

-- somebody who is stepped, or nobody, while others move too
abbrev pub of_all : Option Stepper → Stepped
of_all stepper = record { stepper = stepper; only = Only.All }

-- the debugger at another position
abbrev pub moved_to : DebuggerState → ℕ → DebuggerState
moved_to d position = record d { position = position }

-- the debugger after the event of its position, if there is one
abbrev pub after_next : DebuggerState → DebuggerState
after_next d = moved_to d (min (d.position + 1) (length d.events))

-- a position is a stop of a debugger
abbrev pub IsStopOf : DebuggerState → ℕ → Type 0
IsStopOf d position = IsStop d.stops d.boot d.events position

-- the first stop after a debugger's position
abbrev pub IsNext : DebuggerState → Option ℕ → Type 0
IsNext d found = IsLeast (IsStopOf d) (d.position + 1) (length d.events) found

-- the last stop before a debugger's position
abbrev pub IsLast : DebuggerState → Option ℕ → Type 0
IsLast d found = IsGreatest (IsStopOf d) 0 d.position found

-- Up to another position of the journal, after a debugger's or before it, there is no stop on its way. There a move may
-- end that is asked to stop.
pub record IsPassedOn (d : DebuggerState) (at : ℕ) : Type 0 where
  pub on : d.position < at
  pub within : at < length d.events
  pub none : NoneFrom (IsStopOf d) (d.position + 1) at

pub record IsPassedBack (d : DebuggerState) (at : ℕ) : Type 0 where
  pub back : at < d.position
  pub within : 0 < at
  pub none : NoneFrom (IsStopOf d) at d.position

-- What a search forward comes to: it goes to the first stop, or else to the end, or ends early.
abbrev pub SearchesOn : DebuggerState → Search → DebuggerState → Type 0
SearchesOn d (Search.Stop at) next = IsNext d (Some at) × (next ≡ moved_to d at)
SearchesOn d Search.Nothing next = IsNext d None × (next ≡ moved_to d (length d.events))
SearchesOn d Search.Early next = (at : ℕ) × IsPassedOn d at × (next ≡ moved_to d at)

-- What a search backward comes to: it goes to the last stop, or else to the beginning, or ends early.
abbrev pub SearchesBack : DebuggerState → Search → DebuggerState → Type 0
SearchesBack d (Search.Stop at) next = IsLast d (Some at) × (next ≡ moved_to d at)
SearchesBack d Search.Nothing next = IsLast d None × (next ≡ moved_to d 0)
SearchesBack d Search.Early next = (at : ℕ) × IsPassedBack d at × (next ≡ moved_to d at)

-- a move stops before the next event, of which this was told
abbrev pub shows : Told → Look → Bool
shows it look =
    not (hides_break it) && look.breaks
    || (not (hides_exception it) && look.faults || not (hides_watch it) && look.touches)

-- it stops before that event, or after it
abbrev pub stops : Told → Look → Bool
stops it look = shows it look || look.stepped

-- How a move has ended: the debugger; why, and in which thread; and what was told of the event there.
pub record Ended : Type 0 where
  pub debugger : DebuggerState
  pub stop : Stop

abbrev pub ended : DebuggerState → Thread → Reason → Told → Ended
ended d thread reason it =
    record { debugger = d; stop = record { halt = record { thread = thread; reason = reason }; told = it } }

-- The thread that is stepped, or where none is, the one that a move would step.
abbrev pub thread_at : Whose → DebuggerState → Thread
thread_at last d = stepped_thread last.kind d.stops.stepper (shown d) last.thread

-- a step is done
abbrev pub step_done : Whose → DebuggerState → Ended
step_done last d = ended d (thread_at last d) Reason.Done told.Nothing

-- the journal has begun or ended there: told of that thread, or of one that executes
abbrev pub stands_there : Whose → Reason → DebuggerState → Ended
stands_there last reason d =
    ended d (standing_thread last.kind (shown d) (thread_at last d)) reason told.Nothing

-- a break at the instruction of a watch that was told before: GDB shows the break alone
abbrev pub watched_too : Reason → Reason
watched_too (Reason.Break kind) = Reason.WatchedBreak kind
watched_too other = other

abbrev pub noted : Bool → Reason → Reason
noted test reason = if test then watched_too reason else reason

-- what comes next is told, and why: of the thread whose step it is; whether its watch was told before
abbrev pub stands_before : List Point → Whose → Told → Bool → Look → DebuggerState → Ended
stands_before points last it touched look d =
    ended d (thread_of last (shown d) look.event)
    (noted touched (reason_for (told_ahead it look) points (shown d) look)) (told_ahead it look)

-- Where a move forward stands that has come to a stop: before its event, but after one that is nothing else than a stop
-- of who is stepped. (At the journal's end there is no event.)
abbrev pub stand : List Point → Whose → Told → Option Look → DebuggerState → Ended
stand points last it None d = stands_there last Reason.Done d
stand points last it (Some look) d =
    if shows it look then stands_before points last it false look d else step_done last (after_next d)

-- it stands so at a stop of which nothing was told
pub record StandsAhead (points : List Point) (last : Whose) (d : DebuggerState) (e : Ended) : Type 0 where
  pub look : Option Look
  pub sees : SeesAhead d look
  pub stands : e ≡ stand points last told.Nothing look d

-- a move forward ends at its own position, which is a stop of which something wasn't told
pub record StopsHere (points : List Point) (last : Whose) (it : Told) (d : DebuggerState) (e : Ended) : Type 0 where
  pub stop : IsStopOf d d.position
  pub look : Look
  pub sees : SeesAhead d (Some look)
  pub untold : stops it look ≡ true
  pub stands : e ≡ stand points last it (Some look) d

-- all that stops it at its own position was told
abbrev pub PassesOn : Told → DebuggerState → Type 0
PassesOn it d = IsStopOf d d.position → (look : Look) × SeesAhead d (Some look) × (stops it look ≡ false)

-- It ends at the first stop after its position; where there is none, at the journal's end; and where it is asked to
-- stop, at any position on its way that comes before.
pub data GoesOn (points : List Point) (last : Whose) (d : DebuggerState) (e : Ended) : Type 0 where
  ahead : (found : ℕ) → IsNext d (Some found) → StandsAhead points last (moved_to d found) e → GoesOn points last d e
  end : IsNext d None → e ≡ stands_there last Reason.End (moved_to d (length d.events)) → GoesOn points last d e
  early : (at : ℕ) → IsPassedOn d at → e ≡ stands_there last Reason.Interrupt (moved_to d at) → GoesOn points last d e

-- A move forward ends at its position, where that is a stop of which something wasn't told; or else at the first stop
-- after it.
pub data GoesForward (points : List Point) (last : Whose) (it : Told) (d : DebuggerState) (e : Ended) : Type 0 where
  here : StopsHere points last it d e → GoesForward points last it d e
  on : PassesOn it d → GoesOn points last d e → GoesForward points last it d e

-- After an event whose watch is told a move back stands, and else before it.
abbrev pub stands_behind : List Point → Whose → Look → DebuggerState → Ended
stands_behind points last look d =
    ended (after_next d) (thread_of last (shown d) look.event) (watched points (shown d) look) told.WatchBehind

-- Where a move back stands that has come to a stop: before its event, but after one that touches a watched byte, unless
-- that was told. Where it is neither a break nor an exception, a step is done.
abbrev pub stand_behind : List Point → Whose → Bool → Option Look → DebuggerState → Ended
stand_behind points last is_told None d = stands_there last Reason.Done d
stand_behind points last is_told (Some look) d =
    if look.touches && not is_told then stands_behind points last look d
    else (if look.breaks || look.faults then stands_before points last told.Nothing is_told look d
    else step_done last d)

-- it goes back further where that was told, and the event is no other stop
abbrev pub passes : Bool → Option Look → Bool
passes is_told None = false
passes is_told (Some look) = is_told && (not look.breaks && (not look.faults && not look.stepped))

-- it stands so at a stop of which nothing was told
pub record StandsBehind (points : List Point) (last : Whose) (d : DebuggerState) (e : Ended) : Type 0 where
  pub look : Option Look
  pub sees : SeesAhead d look
  pub stands : e ≡ stand_behind points last false look d

-- It ends at the last stop before its position; where there is none, at the journal's beginning; and where it is asked
-- to stop, at any position on its way that comes before.
pub data EndsBehind (points : List Point) (last : Whose) (d : DebuggerState) (e : Ended) : Type 0 where
  back : (found : ℕ) → IsLast d (Some found) → StandsBehind points last (moved_to d found) e →
      EndsBehind points last d e
  none : IsLast d None → e ≡ stands_there last Reason.Begin (moved_to d 0) → EndsBehind points last d e
  early : (at : ℕ) → IsPassedBack d at → e ≡ stands_there last Reason.Interrupt (moved_to d at) →
      EndsBehind points last d e

-- What a move back does that has come to a stop, the watch of which was told or not.
pub record StopsBehind (points : List Point) (last : Whose) (is_told : Bool) (d : DebuggerState) (e : Ended) :
    Type 0 where
  pub look : Option Look
  pub sees : SeesAhead d look
  pub stands : passes is_told look ≡ false → e ≡ stand_behind points last is_told look d
  pub further : passes is_told look ≡ true → EndsBehind points last d e

-- the watch of the event before a position was told
abbrev pub is_told_behind : Told → ℕ → Bool
is_told_behind told.WatchBehind events = events == 1
is_told_behind told.Nothing events = false
is_told_behind told.Break events = false
is_told_behind told.Exception events = false
is_told_behind told.Watch events = false

-- A move back ends at the last stop before its position; or, where that was told, at the one before that; and where it
-- is asked to stop, at any position on its way that comes before.
pub data GoesBack (points : List Point) (last : Whose) (it : Told) (d : DebuggerState) (e : Ended) : Type 0 where
  back_to : (found : ℕ) → IsLast d (Some found) →
      StopsBehind points last (is_told_behind it (d.position - found)) (moved_to d found) e →
      GoesBack points last it d e
  to_begin : IsLast d None → e ≡ stands_there last Reason.Begin (moved_to d 0) → GoesBack points last it d e
  early : (at : ℕ) → IsPassedBack d at → e ≡ stands_there last Reason.Interrupt (moved_to d at) →
      GoesBack points last it d e

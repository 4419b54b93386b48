-- Time handlers: cyclic handlers and alarm handlers (uITRON 4.0 specification, "Cyclic Handlers" and "Alarm Handlers").
-- Ticks are counted from boot on, and a handler is due at ticks: in `brd_kernel` its interrupt line is raised then.
use Rattle.std.specs.Prelude.{ℕ, ◌+◌, ◌-◌, ◌%◌, ◌^◌, nat_le, nat_lt, Bool, false, if◌then◌else◌, List}
use Rattle.std.specs.Prelude.{slice_index_or, slice_set, Option, None, Some}
use Rattle.std.specs.Option.{option_map}
use Rattle.brd_timers.specs.declared.course.Course.{Course}
use Rattle.brd_timers.specs.declared.course.Course.TheVariants.{Cyclic, Alarm}
use Rattle.brd_timers.specs.declared.course.Cycle.{Cycle}
use Rattle.brd_timers.specs.declared.timer.Timer.{Timer}

-- the last tick that is counted, as brd_time has it
abbrev pub last_count : ℕ
last_count = 2 ^ 63 - 1

-- The tick at which a time that is asked for at one is over: as many whole ticks as that have passed then.
abbrev pub due_after : ℕ → ℕ → ℕ
due_after now ticks = now + ticks + 1

-- The times of a cyclic handler are `first`, `first + period`, `first + 2 * period`, and so on. The first one after a
-- tick: `laws::the_next_time_is_the_first_after_now` says that it is.
abbrev pub next_time : ℕ → ℕ → ℕ → ℕ
next_time first period now = if nat_lt now first then first else now + (period - (now - first) % period)

-- the first time of a cyclic handler that is counted from boot, which is before the first tick: after its phase
abbrev pub first_time : Cycle → ℕ
first_time cycle = due_after 0 cycle.phase

-- a time handler that is due at a tick next, or is stopped
abbrev pub timer_with : Course → Option ℕ → Timer
timer_with course due = record { course = course; due = due }

-- At boot: a cyclic handler with TA_STA works, all others are stopped.

abbrev pub due_at_boot : Course → Option ℕ
due_at_boot (Cyclic cycle) = if cycle.starts then Some (first_time cycle) else None
due_at_boot Alarm = None

abbrev pub made : Course → Timer
made course = timer_with course (due_at_boot course)

-- The next time of a cyclic handler that is started at a tick. With TA_PHS its times are those that are counted from
-- boot; else the first one is a period after the start, also if it works already.
abbrev pub start_of : ℕ → Cycle → ℕ
start_of now cycle =
    if cycle.keeps then next_time (first_time cycle) cycle.period now else due_after now cycle.period

-- a cyclic handler is started at a tick (an alarm handler isn't started so)

abbrev pub started_by : ℕ → Timer → Course → Timer
started_by now timer (Cyclic cycle) = record timer { due = Some (start_of now cycle) }
started_by now timer Alarm = timer

abbrev pub started : ℕ → Timer → Timer
started now timer = started_by now timer timer.course

-- an alarm handler is started at a tick: it is due once, after as many ticks as are asked for, and at no earlier time
-- that was asked for before
abbrev pub asked_for : ℕ → ℕ → Timer → Timer
asked_for now ticks timer = record timer { due = Some (due_after now ticks) }

-- a time handler is stopped: it isn't due
abbrev pub stopped : Timer → Timer
stopped timer = record timer { due = None }

-- its time has come at a tick

abbrev pub has_come : ℕ → Option ℕ → Bool
has_come now None = false
has_come now (Some due) = nat_le due now

abbrev pub is_due : ℕ → Timer → Bool
is_due now timer = has_come now timer.due

-- after its time has come: a cyclic handler is due again a period later, an alarm handler is stopped

abbrev pub due_again : Course → Option ℕ → Option ℕ
due_again (Cyclic cycle) due = option_map (λ tick. tick + cycle.period) due
due_again Alarm due = None

abbrev pub passed : Timer → Timer
passed timer = record timer { due = due_again timer.course timer.due }

-- a tick passes
abbrev pub ticked : ℕ → Timer → Timer
ticked now timer = if is_due now timer then passed timer else timer

-- The time handlers of a board, by their places: None at an empty one.

-- the one at a place
abbrev pub timer_at : List (Option Timer) → ℕ → Option Timer
timer_at timers place = slice_index_or timers place None

-- it is changed, where there is one
abbrev pub changed_at : (Timer → Timer) → List (Option Timer) → ℕ → List (Option Timer)
changed_at change timers place = slice_set timers place (option_map change (timer_at timers place))

abbrev pub is_due_in : ℕ → Option Timer → Bool
is_due_in now None = false
is_due_in now (Some timer) = is_due now timer

-- its time has come at a tick
abbrev pub is_due_at : ℕ → List (Option Timer) → ℕ → Bool
is_due_at now timers place = is_due_in now (timer_at timers place)

-- a tick passes for it
abbrev pub passed_at : ℕ → List (Option Timer) → ℕ → List (Option Timer)
passed_at now timers place = changed_at (ticked now) timers place

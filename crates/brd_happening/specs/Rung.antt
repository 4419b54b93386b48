-- The interrupt lines that a tick raises: those of the time handlers that are due at it. One that is pending already is
-- raised in vain: its handler runs once for both times.
use Rattle.std.specs.Prelude.{ℕ, ◌+◌, Bool, if◌then◌else◌, List, [], Option, None, Some}
use Rattle.std.specs.List.{filter_map, range_with_len}
use Rattle.brd_timers.specs.Timers.{is_due_at}
use Rattle.brd_kernel.specs.Kernel.{line_at, timer_line}
use Rattle.brd_board.specs.declared.event.Event.{Event}
use Rattle.brd_board.specs.declared.event.Event.TheVariants.{Step, Tick, Raise}
use Rattle.brd_board.specs.Board.{BoardState}
use Rattle.brd_happening.specs.declared.rung.Rung.{Rung}

-- the time handler at a place is due at the next tick
abbrev pub is_due : BoardState → ℕ → Bool
is_due b place = is_due_at (b.kernel.time.count + 1) b.kernel.timers place

abbrev pub rung_at : BoardState → ℕ → Rung
rung_at b place = record { line = timer_line place; pending = (line_at b.kernel (timer_line place)).pending }

-- its line, if it is due then
abbrev pub due_at : BoardState → ℕ → Option Rung
due_at b place = if is_due b place then Some (rung_at b place) else None

-- those of all time handlers, by ascending number
abbrev pub all_due : BoardState → List Rung
all_due b = filter_map (due_at b) (range_with_len 0 128)

-- the lines that an event raises where it is a tick that is counted
abbrev pub due_in : BoardState → Event → List Rung
due_in b (Step cpu) = []
due_in b Tick = all_due b
due_in b (Raise line) = []

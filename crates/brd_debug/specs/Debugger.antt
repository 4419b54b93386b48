-- A debugger: a boot, the events of a journal, how many of them have happened to the board that it shows, and where it
-- stops.
use Rattle.std.specs.Prelude.{◌≡◌, ◌⊎◌, ℕ, ◌<◌, ◌≤◌, List, length, slice_get, Option, Some, None, Result, Ok, Err}
use Rattle.std.specs.Prelude.{true, Decides}
use Rattle.brd_board.specs.declared.event.Event.{Event}
use Rattle.brd_board.specs.Board.{BoardState, happens}
use Rattle.brd_journal.specs.Playing.{board_at}
use Rattle.brd_debug.specs.declared.fault.DebugFault.{DebugFault}
use Rattle.brd_debug.specs.declared.fault.DebugFault.TheVariants.{NoMemory, Past}
use Rattle.brd_debug.specs.Stops.{IsBreak, is_by, is_stepped, is_fault, is_done, Differs}
use Rattle.brd_debug.specs.Touching.{touches}
use Rattle.brd_debug.specs.declared.look.Look.{Look}
use Rattle.brd_debug.specs.declared.stops.Stops.{Stops}

pub record DebuggerState : Type 0 where
  pub boot : BoardState
  pub events : List Event
  pub position : ℕ
  pub stops : Stops

-- the board that it shows: the one after the first events
abbrev pub shown : DebuggerState → BoardState
shown d = board_at d.boot d.events d.position

-- A move to a position answers that it is past the end, and nothing else, exactly where there are fewer events.
pub record Goes (d : DebuggerState) (position : ℕ) (result : Result Unit DebugFault) : Type 0 where
  pub past : length d.events < position → result ≡ Err (Past (length d.events))
  pub goes : position ≤ length d.events → (result ≡ Ok _) ⊎ (result ≡ Err NoMemory)

-- what a search answers, and where it leads: to the stop that it found, or nowhere
abbrev pub went : DebuggerState → Option ℕ → DebuggerState
went d None = d
went d (Some position) = record d { position = position }

-- The same, where a search that finds nothing leads to another position.
abbrev pub sought : DebuggerState → ℕ → Option ℕ → DebuggerState
sought d other None = record d { position = other }
sought d other (Some position) = record d { position = position }

-- What the event of a debugger's position does, seen ahead; at the last position nothing is.
abbrev pub SeesAhead : DebuggerState → Option Look → Type 0
SeesAhead d None = slice_get d.events d.position ≡ None
SeesAhead d (Some look) =
    (slice_get d.events d.position ≡ Some look.event)
    × (record { board = look.board; report = look.report } ≡ happens (shown d) look.event)
    × (look.stepped
    ≡ is_stepped d.stops.stepper look.event look.report (is_by d.stops.stepper (shown d) look.event) look.board)
    × Decides look.breaks (IsBreak d.stops.breaks look.report)
    × (look.faults ≡ is_fault d.stops.faults look.report)
    × Decides look.touches (Differs d.stops.watches (shown d).memory look.board.memory
    ⊎ (is_done (touches d.stops.reads d.stops.accesses (shown d) look.event) look.report ≡ true))

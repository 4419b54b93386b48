-- Which events hit a point, and at which a move stops (GDB manual, "Setting Breakpoints", "Setting Watchpoints").
use Rattle.std.specs.Prelude.{◌≡◌, ◌≢◌, ◌⊎◌, ℕ, ◌+◌, ◌%◌, ◌^◌, ◌<◌, true, List, slice_get, Option, Some, None}
use Rattle.std.specs.List.{Any}
use Rattle.brd_mem.specs.Memory.{byte_at}
use Rattle.brd_board.specs.declared.event.Event.{Event}
use Rattle.brd_board.specs.declared.event.Event.TheVariants.{Step, Tick, Raise}
use Rattle.brd_board.specs.declared.event.Report.{Report}
use Rattle.brd_board.specs.declared.event.Report.TheVariants as report
use Rattle.brd_board.specs.Board.{BoardState, happens}
use Rattle.brd_journal.specs.Playing.{board_at}
use Rattle.brd_exec.specs.declared.accessed.Span.{Span}
use Rattle.brd_debug.specs.Touching.{read_on, written_on}
use Rattle.brd_debug.specs.Stops.{concerns, is_by, is_stepped, is_fault, is_done}
use Rattle.brd_gdb.specs.declared.request.PointKind.{PointKind}
use Rattle.brd_stub.specs.declared.points.Point.{Point}
use Rattle.brd_stub.specs.declared.stepping.Stepped.{Stepped}

-- an event executes the instruction at an address, or raises an exception there
abbrev pub IsAt : Report → ℕ → Type 0
IsAt (report.Ran place) address = place ≡ address
IsAt (report.Called place) address = place ≡ address
IsAt (report.Faulted place) address = place ≡ address
IsAt other address = ⊥

-- an address is one of the bytes of a point, from its first one to its last, or of a span
abbrev pub IsByteOf : Point → ℕ → Type 0
IsByteOf p address = (i : ℕ) × (i < p.length) × (address ≡ (p.address + i) % 2 ^ 32)

abbrev pub IsWithin : Option Span → ℕ → Type 0
IsWithin None address = ⊥
IsWithin (Some s) address = (i : ℕ) × (i < s.count) × (address ≡ (s.first + i) % 2 ^ 32)

-- an event is a step whose instruction names a byte to read, or to write
abbrev pub IsRead : BoardState → Event → ℕ → Type 0
IsRead b (Step cpu) address = IsWithin (read_on b cpu) address
IsRead b Tick address = ⊥
IsRead b (Raise line) address = ⊥

abbrev pub IsWritten : BoardState → Event → ℕ → Type 0
IsWritten b (Step cpu) address = IsWithin (written_on b cpu) address
IsWritten b Tick address = ⊥
IsWritten b (Raise line) address = ⊥

-- An event that comes to a board, and leaves another one with this report, hits a point: a break by its instruction, a
-- watch by any of its bytes that it changes, or that its instruction reads, or reads or writes, unless that raises an
-- exception.
abbrev pub HitsAs : PointKind → Point → BoardState → Event → Report → BoardState → Type 0
HitsAs PointKind.SoftwareBreak p b event told after = IsAt told p.address
HitsAs PointKind.HardwareBreak p b event told after = IsAt told p.address
HitsAs PointKind.WriteWatch p b event told after =
    (address : ℕ) × IsByteOf p address × (byte_at b.memory address ≢ byte_at after.memory address)
HitsAs PointKind.ReadWatch p b event told after =
    (is_done true told ≡ true) × ((address : ℕ) × IsByteOf p address × IsRead b event address)
HitsAs PointKind.AccessWatch p b event told after =
    (is_done true told ≡ true)
    × ((address : ℕ) × IsByteOf p address × (IsRead b event address ⊎ IsWritten b event address))

-- A move that steps somebody so, or nobody, stops at an event: it hits a point, raises an exception, or is a stop of
-- who is stepped.
abbrev pub EndsAs : List Point → Stepped → BoardState → Event → Report → BoardState → Type 0
EndsAs points it b event told after =
    Any (λ p. HitsAs p.kind p b event told after) points
    ⊎ ((is_stepped it.stepper event told (is_by it.stepper b event) after ≡ true) ⊎ (is_fault true told ≡ true))

-- Such a move stops at a position of a journal: at its event, which is one of those that count.
pub record IsPlace (points : List Point) (it : Stepped) (boot : BoardState) (events : List Event)
    (position : ℕ) : Type 0 where
  pub event : Event
  pub there : slice_get events position ≡ Some event
  pub concerned : concerns it.only event (is_by it.stepper (board_at boot events position) event) ≡ true
  pub ends : EndsAs points it (board_at boot events position) event
      (happens (board_at boot events position) event).report
      (happens (board_at boot events position) event).board

-- Why a board stands where it is, and whose thread that is.
use Rattle.std.specs.Prelude.{ℕ, zero, suc, ◌+◌, ◌-◌, ◌%◌, ◌^◌, ◌==◌, nat_lt, Bool, true, false, not, ◌&&◌, ◌||◌}
use Rattle.std.specs.Prelude.{if◌then◌else◌, List, [], ◌∷◌, Option, None, Some}
use Rattle.brd_board.specs.declared.view.Fault.{Fault}
use Rattle.brd_mem.specs.Memory.{Memory, byte_at}
use Rattle.brd_board.specs.declared.event.Event.{Event}
use Rattle.brd_board.specs.declared.event.Event.TheVariants.{Step, Tick, Raise}
use Rattle.brd_board.specs.declared.event.Report.{Report}
use Rattle.brd_board.specs.declared.event.Report.TheVariants as report
use Rattle.brd_board.specs.Board.{BoardState, fault_of}
use Rattle.brd_exec.specs.declared.accessed.Span.{Span}
use Rattle.brd_debug.specs.declared.look.Look.{Look}
use Rattle.brd_debug.specs.Touching.{read_on, written_on}
use Rattle.brd_gdb.specs.declared.request.PointKind.{PointKind}
use Rattle.brd_stub.specs.declared.points.Point.{Point}
use Rattle.brd_stub.specs.declared.threads.Thread.{Thread}
use Rattle.brd_stub.specs.declared.threads.Whose.{Whose}
use Rattle.brd_stub.specs.declared.halt.Reason.{Reason}
use Rattle.brd_stub.specs.declared.halt.Told.{Told}
use Rattle.brd_stub.specs.declared.halt.Told.TheVariants as told
use Rattle.brd_stub.specs.Points.{is_break, is_kind}
use Rattle.brd_stub.specs.Threads.{thread_on}

-- the thread whose step an event is that comes to a board; of another event the one that was chosen
abbrev pub thread_of : Whose → BoardState → Event → Thread
thread_of last b (Step cpu) = thread_on last.kind b cpu last.thread
thread_of last b Tick = last.thread
thread_of last b (Raise line) = last.thread

-- the kind of the first point that is a break at an address
abbrev pub kind_at : List Point → ℕ → Option PointKind
kind_at [] address = None
kind_at (p ∷ points) address =
    if p.address == address && is_break p.kind then Some p.kind else kind_at points address

abbrev pub or_software : Option PointKind → PointKind
or_software None = PointKind.SoftwareBreak
or_software (Some kind) = kind

-- the kind of the break at the instruction that an event with this report executes
abbrev pub break_of : List Point → Report → PointKind
break_of points (report.Ran address) = or_software (kind_at points address)
break_of points (report.Called address) = or_software (kind_at points address)
break_of points (report.Faulted address) = or_software (kind_at points address)
break_of points other = PointKind.SoftwareBreak

-- which exception a step has raised that has left a board
abbrev pub reason_by : Option Fault → Reason
reason_by None = Reason.Done
reason_by (Some fault) = Reason.Exception fault.code

abbrev pub exception_of : Event → BoardState → Reason
exception_of (Step cpu) after = reason_by (fault_of after cpu)
exception_of Tick after = Reason.Done
exception_of (Raise line) after = Reason.Done

-- a byte differs
abbrev pub is_other : Option ℕ → Option ℕ → Bool
is_other None None = false
is_other (Some old) (Some new) = not (old == new)
is_other None (Some new) = true
is_other (Some old) None = true

-- of the bytes from an address on, one of n from one on differs between two memories
abbrev pub differ : Memory → Memory → ℕ → ℕ → ℕ → Bool
differ old new address from zero = false
differ old new address from (suc n) =
    is_other (byte_at old ((address + from) % 2 ^ 32)) (byte_at new ((address + from) % 2 ^ 32))
    || differ old new address (suc from) n

-- the first point of watches of which a byte differs
abbrev pub changed : List Point → Memory → Memory → Option Point
changed [] old new = None
changed (p ∷ points) old new =
    if is_kind PointKind.WriteWatch p.kind && differ old new p.address 0 p.length then Some p
    else changed points old new

-- a point has one of these bytes: its first one is one of theirs, or their first one is one of its own
abbrev pub meets : Point → Option Span → Bool
meets p None = false
meets p (Some s) =
    nat_lt ((p.address + (2 ^ 32 - s.first)) % 2 ^ 32) s.count
    || nat_lt ((s.first + (2 ^ 32 - p.address)) % 2 ^ 32) p.length

-- an instruction that reads and writes these bytes touches those of a watch, as its kind says
abbrev pub touches_point : PointKind → Point → Option Span → Option Span → Bool
touches_point PointKind.ReadWatch p read written = meets p read
touches_point PointKind.AccessWatch p read written = meets p read || meets p written
touches_point PointKind.WriteWatch p read written = false
touches_point PointKind.SoftwareBreak p read written = false
touches_point PointKind.HardwareBreak p read written = false

-- the first point that is such a watch
abbrev pub touched : List Point → Option Span → Option Span → Option Point
touched [] read written = None
touched (p ∷ points) read written =
    if touches_point p.kind p read written then Some p else touched points read written

-- The watch that an event meets which comes next to a board: the first one of which it changes a byte, else the first
-- one of reads, or of reads and writes, of which its instruction touches a byte.
abbrev pub reason_at : Option Point → Reason
reason_at None = Reason.Done
reason_at (Some p) = Reason.Watch p.kind p.address

abbrev pub touched_by : List Point → BoardState → Event → Option Point
touched_by points b (Step cpu) = touched points (read_on b cpu) (written_on b cpu)
touched_by points b Tick = None
touched_by points b (Raise line) = None

abbrev pub or_touched : Option Point → Option Point → Option Point
or_touched (Some p) other = Some p
or_touched None other = other

abbrev pub watched : List Point → BoardState → Look → Reason
watched points b look =
    reason_at (or_touched (changed points b.memory look.board.memory) (touched_by points b look.event))

-- What is told of an event that comes next, of which this was told: a break, else an exception, else a watch.
abbrev pub hides_break : Told → Bool
hides_break told.Nothing = false
hides_break told.WatchBehind = false
hides_break told.Break = true
hides_break told.Exception = true
hides_break told.Watch = true

abbrev pub hides_exception : Told → Bool
hides_exception told.Nothing = false
hides_exception told.WatchBehind = false
hides_exception told.Break = false
hides_exception told.Exception = true
hides_exception told.Watch = true

abbrev pub hides_watch : Told → Bool
hides_watch told.Nothing = false
hides_watch told.WatchBehind = false
hides_watch told.Break = false
hides_watch told.Exception = false
hides_watch told.Watch = true

abbrev pub told_ahead : Told → Look → Told
told_ahead it look =
    if look.breaks && not (hides_break it) then told.Break
    else (if look.faults && not (hides_exception it) then told.Exception
    else told.Watch)

-- and that is the reason
abbrev pub reason_for : Told → List Point → BoardState → Look → Reason
reason_for told.Break points b look = Reason.Break (break_of points look.report)
reason_for told.Exception points b look = exception_of look.event look.board
reason_for told.Nothing points b look = watched points b look
reason_for told.Watch points b look = watched points b look
reason_for told.WatchBehind points b look = watched points b look

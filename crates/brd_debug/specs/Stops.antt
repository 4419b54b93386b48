-- Where a debugger stops: at breaks, where watched bytes change, where instructions read or write bytes, where a
-- processor that is stepped comes out of a range, and at exceptions (own choice).
use Rattle.std.specs.Prelude.{◌≡◌, ◌≢◌, ◌⊎◌, ℕ, ◌<◌, ◌≤◌, ◌==◌, nat_lt, nat_le, Bool, true, false, not, ◌&&◌, ◌||◌}
use Rattle.std.specs.Prelude.{List, [], slice_get, Option, Some, None, Contains}
use Rattle.brd_mem.specs.Memory.{Memory, byte_at}
use Rattle.brd_board.specs.declared.event.Event.{Event}
use Rattle.brd_board.specs.declared.event.Event.TheVariants.{Step, Tick, Raise}
use Rattle.brd_board.specs.declared.event.Report.{Report}
use Rattle.brd_board.specs.declared.event.Report.TheVariants as report
use Rattle.brd_exec.specs.State.{State}
use Rattle.brd_kernel.specs.declared.processor.Standing.{Standing}
use Rattle.brd_tasks.specs.declared.task.TaskView.{TaskView}
use Rattle.brd_board.specs.Board.{BoardState, happens, registers_of, standing_of, task_of}
use Rattle.brd_journal.specs.Still.{does_no_more}
use Rattle.brd_journal.specs.Playing.{board_at}
use Rattle.brd_debug.specs.declared.stops.Stepper.{Stepper}
use Rattle.brd_debug.specs.declared.stops.Only.{Only}
use Rattle.brd_debug.specs.declared.stops.Only.TheVariants as only
use Rattle.brd_debug.specs.declared.stops.Stops.{Stops}
use Rattle.brd_debug.specs.Touching.{touches}

-- An event's report names a break: the instruction there was executed, was a SYSCALL, or raised an exception, also by
-- its fetch.
abbrev pub IsBreak : List ℕ → Report → Type 0
IsBreak breaks (report.Ran address) = Contains breaks address
IsBreak breaks (report.Called address) = Contains breaks address
IsBreak breaks (report.Faulted address) = Contains breaks address
IsBreak breaks _ = ⊥

-- an event's report says that an instruction was executed, was a SYSCALL, or raised an exception
abbrev pub executes : Report → Bool
executes (report.Ran address) = true
executes (report.Called address) = true
executes (report.Faulted address) = true
executes _ = false

-- an event is a step of a processor
abbrev pub is_step_of : ℕ → Event → Bool
is_step_of cpu (Step other) = other == cpu
is_step_of cpu Tick = false
is_step_of cpu (Raise line) = false

-- the next instruction of a context lies outside a range, or there is none
abbrev pub is_outside : ℕ → ℕ → Option State → Bool
is_outside start end None = true
is_outside start end (Some context) = nat_lt context.pc start || nat_le end context.pc

-- a processor executes just this task, or this handler
abbrev pub is_who : Standing → Option Standing → Bool
is_who (Standing.Task id) (Some (Standing.Task other)) = id == other
is_who (Standing.Handler line) (Some (Standing.Handler other)) = line == other
is_who who standing = false

-- The processor of who was executed on another one: of a task the one to which it is assigned by now (a service call
-- may have moved it, as mig_tsk does), of a handler the same.
abbrev pub assigned_or : ℕ → Option TaskView → ℕ
assigned_or cpu None = cpu
assigned_or cpu (Some task) = task.cpu

abbrev pub processor_of : ℕ → Standing → BoardState → ℕ
processor_of cpu (Standing.Task id) b = assigned_or cpu (task_of b id)
processor_of cpu other b = cpu

-- who is meant is to go on, on a processor, outside a range
abbrev pub goes_on_outside : ℕ → Standing → ℕ → ℕ → BoardState → Bool
goes_on_outside cpu who start end b = is_who who (standing_of b cpu) && is_outside start end (registers_of b cpu)

-- who was executed on a processor is to go on outside a range, on his processor
abbrev pub has_come_out : ℕ → Standing → ℕ → ℕ → BoardState → Bool
has_come_out cpu who start end after = goes_on_outside (processor_of cpu who after) who start end after

-- an event may have changed who executes, or where
abbrev pub moves_on : Event → Report → Bool
moves_on event told = not (does_no_more event told)

-- an event is a step of a processor that executes just this task, or this handler
abbrev pub is_step_by : Standing → BoardState → Event → Bool
is_step_by who b (Step cpu) = is_who who (standing_of b cpu)
is_step_by who b Tick = false
is_step_by who b (Raise line) = false

-- An event, as it comes to a board, is a step of whom a stepper names, wherever he is executed.
abbrev pub is_by : Option Stepper → BoardState → Event → Bool
is_by None b event = false
is_by (Some (Stepper.Each cpu)) b event = false
is_by (Some (Stepper.Of who)) b event = is_step_by who b event
is_by (Some (Stepper.Until cpu who start end)) b event = false

-- An event is a stop of who is stepped: it executes an instruction on a processor, or an instruction of a task or
-- handler; or it leads whom a processor executes out of a range, others who are executed in the meantime apart, and on
-- whichever processor he goes on.
abbrev pub is_stepped : Option Stepper → Event → Report → Bool → BoardState → Bool
is_stepped None event told by after = false
is_stepped (Some (Stepper.Each cpu)) event told by after = is_step_of cpu event && executes told
is_stepped (Some (Stepper.Of who)) event told by after = by && executes told
is_stepped (Some (Stepper.Until cpu who start end)) event told by after =
    moves_on event told && has_come_out cpu who start end after

-- the processor of who is stepped, on a board; of nobody another one
abbrev pub stepped_on : Option Stepper → BoardState → ℕ → ℕ
stepped_on None b other = other
stepped_on (Some (Stepper.Each cpu)) b other = cpu
stepped_on (Some (Stepper.Of who)) b other = processor_of other who b
stepped_on (Some (Stepper.Until cpu who start end)) b other = processor_of cpu who b

-- an event raises an exception, where a debugger stops at these
abbrev pub is_fault : Bool → Report → Bool
is_fault faults (report.Faulted address) = faults
is_fault faults _ = false

-- an event with this report, which was a step of whom the stepper names or not, and has left this board, is one at
-- which a debugger stops, whatever memory it changed
abbrev pub IsTold : Stops → Event → Report → Bool → BoardState → Type 0
IsTold stops event told by after =
    IsBreak stops.breaks told
    ⊎ ((is_stepped stops.stepper event told by after ≡ true) ⊎ (is_fault stops.faults told ≡ true))

-- A watched byte differs between two memories.
abbrev pub Differs : List ℕ → Memory → Memory → Type 0
Differs watches old new = (address : ℕ) × Contains watches address × (byte_at old address ≢ byte_at new address)

-- an instruction that touches bytes was done: there was one, and it raised no exception
abbrev pub is_done : Bool → Report → Bool
is_done touched (report.Ran address) = touched
is_done touched _ = false

-- the events that are stops are all, or the steps of one processor, or those of whom the stepper names
abbrev pub concerns : Only → Event → Bool → Bool
concerns only.All event by = true
concerns (only.Processor cpu) event by = is_step_of cpu event
concerns only.Stepped event by = by

-- an event with this report, which found this memory, touches bytes by its instruction or not, is a step of whom the
-- stepper names or not, and has left this board, is one at which a debugger stops
abbrev pub Meets : Stops → Event → Report → Memory → Bool → Bool → BoardState → Type 0
Meets stops event told memory touched by after =
    (concerns stops.only event by ≡ true)
    × (IsTold stops event told by after
    ⊎ (Differs stops.watches memory after.memory ⊎ (is_done touched told ≡ true)))

-- an event, as it happens to a board, is one at which a debugger stops
abbrev pub StopsAt : Stops → BoardState → Event → Type 0
StopsAt stops board event =
    Meets stops event (happens board event).report board.memory (touches stops.reads stops.accesses board event)
    (is_by stops.stepper board event) (happens board event).board

-- no breaks, no watches, nobody who is stepped, on at exceptions, and of all
abbrev pub no_stops : Stops
no_stops = record {
  breaks = [];
  watches = [];
  reads = [];
  accesses = [];
  stepper = None;
  faults = false;
  only = only.All;
}

-- A position is a stop where the event after it is one.
pub record IsStop (stops : Stops) (boot : BoardState) (events : List Event) (position : ℕ) : Type 0 where
  pub event : Event
  pub there : slice_get events position ≡ Some event
  pub stops_there : StopsAt stops (board_at boot events position) event

-- there is no stop from a position on, before another one
abbrev pub NoneFrom : (ℕ → Type 0) → ℕ → ℕ → Type 0
NoneFrom Stop from to = (m : ℕ) → from ≤ m → m < to → Stop m → ⊥

-- the least stop from a position on, before another one
abbrev pub IsLeast : (ℕ → Type 0) → ℕ → ℕ → Option ℕ → Type 0
IsLeast Stop from to (Some n) = (from ≤ n) × (n < to) × Stop n × NoneFrom Stop from n
IsLeast Stop from to None = NoneFrom Stop from to

-- the greatest stop from a position on, before another one
abbrev pub IsGreatest : (ℕ → Type 0) → ℕ → ℕ → Option ℕ → Type 0
IsGreatest Stop from to (Some n) = (from ≤ n) × (n < to) × Stop n × ((m : ℕ) → n < m → m < to → Stop m → ⊥)
IsGreatest Stop from to None = NoneFrom Stop from to

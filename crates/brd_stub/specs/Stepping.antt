-- Whom a move steps, and how far.
use Rattle.std.specs.Prelude.{ℕ, ◌+◌, ◌%◌, ◌^◌, nat_le, nat_lt, ◌&&◌, if◌then◌else◌, Option, None, Some}
use Rattle.brd_exec.specs.State.{State}
use Rattle.brd_kernel.specs.declared.processor.Standing.{Standing}
use Rattle.brd_kernel.specs.declared.processor.Standing.TheVariants as standing
use Rattle.brd_board.specs.Board.{BoardState, standing_of, registers_of}
use Rattle.brd_debug.specs.declared.stops.Stepper.{Stepper}
use Rattle.brd_debug.specs.declared.stops.Only.{Only}
use Rattle.brd_debug.specs.declared.stops.Only.TheVariants as only
use Rattle.brd_gdb.specs.declared.request.ThreadId.{ThreadId}
use Rattle.brd_gdb.specs.declared.request.ThreadId.TheVariants as id
use Rattle.brd_gdb.specs.declared.request.ThreadKind.{ThreadKind}
use Rattle.brd_gdb.specs.declared.request.Move.{Move}
use Rattle.brd_gdb.specs.declared.request.Move.TheVariants as move
use Rattle.brd_stub.specs.declared.stepping.Stepped.{Stepped}
use Rattle.brd_stub.specs.declared.threads.Thread.{Thread}
use Rattle.brd_stub.specs.declared.threads.Thread.TheVariants as thread
use Rattle.brd_stub.specs.Threads.{context_at, cpu_of, who_at, thread_for}

-- each instruction of a thread: of a processor, whoever executes it
abbrev pub stepper_each : Thread → Stepper
stepper_each (thread.Task number) = Stepper.Of (standing.Task number)
stepper_each (thread.Handler line) = Stepper.Of (standing.Handler line)
stepper_each (thread.Processor cpu) = Stepper.Each cpu

-- Who a thread is is to come out of a range, or go on elsewhere if he is outside: he may wait, or be preempted, until
-- then. Where a processor executes nobody, its next instruction is waited for.
abbrev pub stepper_in : Stepper → ℕ → Option Standing → Option State → ℕ → ℕ → Stepper
stepper_in each cpu (Some who) (Some s) start end =
    if nat_le start s.pc && nat_lt s.pc end then Stepper.Until cpu who start end
    else Stepper.Until cpu who s.pc ((s.pc + 1) % 2 ^ 32)
stepper_in each cpu (Some who) None start end = each
stepper_in each cpu None context start end = each

abbrev pub stepper_on : BoardState → Thread → ℕ → ℕ → Stepper
stepper_on b it start end = stepper_in (stepper_each it) (cpu_of b it) (who_at b it) (context_at b it) start end

-- Backward the instructions of a thread are stepped; of a processor those of whom it executes.
abbrev pub stepper_by : ℕ → Option Standing → Option State → Stepper
stepper_by cpu (Some who) (Some s) = Stepper.Of who
stepper_by cpu (Some who) None = Stepper.Each cpu
stepper_by cpu None context = Stepper.Each cpu

abbrev pub stepper_back : BoardState → Thread → Stepper
stepper_back b (thread.Processor cpu) = stepper_by cpu (standing_of b cpu) (registers_of b cpu)
stepper_back b (thread.Task number) = Stepper.Of (standing.Task number)
stepper_back b (thread.Handler line) = Stepper.Of (standing.Handler line)

-- While a thread moves alone, nothing is told but what its own steps come to; of a processor, whoever executes them.
abbrev pub only_of : Thread → Only
only_of (thread.Task number) = only.Stepped
only_of (thread.Handler line) = only.Stepped
only_of (thread.Processor cpu) = only.Processor cpu

abbrev pub stepped_alone : Thread → Stepped
stepped_alone it = record { stepper = Some (stepper_each it); only = only_of it }

-- What a move steps. A thread that moves alone is stepped by its next instruction.
abbrev pub stepped_by : ThreadKind → BoardState → Thread → Move → Stepped
stepped_by kind b other move.Continue = record { stepper = None; only = only.All }
stepped_by kind b other (move.Step it) =
    record { stepper = Some (stepper_on b (thread_for kind b it other) 0 0); only = only.All }
stepped_by kind b other (move.Range it start end) =
    record { stepper = Some (stepper_on b (thread_for kind b it other) start end); only = only.All }
stepped_by kind b other (move.Alone number) = stepped_alone (thread_for kind b (id.One number) other)

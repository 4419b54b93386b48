-- What GDB's threads are: the kernel's tasks, whether they execute or not, and the handlers that run; or the board's
-- processors (own choice). A board without tasks has its processors as threads.
use Rattle.std.specs.Prelude.{ℕ, zero, suc, ◌+◌, ◌-◌, ◌==◌, nat_lt, nat_le, ◌&&◌, Bool, true, false, if◌then◌else◌}
use Rattle.std.specs.Prelude.{is_some}
use Rattle.std.specs.Prelude.{Option, None, Some}
use Rattle.brd_exec.specs.State.{State}
use Rattle.brd_kernel.specs.declared.processor.Standing.{Standing}
use Rattle.brd_kernel.specs.declared.processor.Standing.TheVariants as standing
use Rattle.brd_tasks.specs.declared.task.TaskView.{TaskView}
use Rattle.brd_board.specs.declared.view.Fault.{Fault}
use Rattle.brd_board.specs.Board.{BoardState, standing_of, registers_of, task_of, fault_of}
use Rattle.brd_debug.specs.declared.stops.Stepper.{Stepper}
use Rattle.brd_debug.specs.Stops.{assigned_or, stepped_on}
use Rattle.brd_gdb.specs.declared.request.ThreadId.{ThreadId}
use Rattle.brd_gdb.specs.declared.request.ThreadId.TheVariants as id
use Rattle.brd_gdb.specs.declared.request.ThreadKind.{ThreadKind}
use Rattle.brd_gdb.specs.declared.request.ThreadKind.TheVariants as kind
use Rattle.brd_stub.specs.declared.threads.Thread.{Thread}
use Rattle.brd_stub.specs.declared.threads.Thread.TheVariants as thread

-- The number by which GDB names a thread: of a task its ID, of a handler its interrupt line and 256 more, of a
-- processor its own.
abbrev pub number_of : Thread → ℕ
number_of (thread.Task number) = number
number_of (thread.Handler line) = 256 + line
number_of (thread.Processor cpu) = cpu

-- a processor that does this runs the handler of a line
abbrev pub is_handling : ℕ → Option Standing → Bool
is_handling line (Some (standing.Handler other)) = other == line
is_handling line other = false

-- the first processor, of n from a number on, that runs it
abbrev pub handling_from : BoardState → ℕ → ℕ → ℕ → Option ℕ
handling_from b line zero cpu = None
handling_from b line (suc n) cpu =
    if is_handling line (standing_of b cpu) then Some cpu else handling_from b line n (cpu + 1)

abbrev pub handling : BoardState → ℕ → Option ℕ
handling b line = handling_from b line 8 1

-- the context of a task, whether it executes or not
abbrev pub kept_in : Option TaskView → Option State
kept_in None = None
kept_in (Some task) = Some task.context

-- the context in which one of the processors executes, if there is one
abbrev pub registers_on : BoardState → Option ℕ → Option State
registers_on b None = None
registers_on b (Some cpu) = registers_of b cpu

-- The context of a thread: of a task its own, also while it waits, is preempted, suspended or dormant, or an interrupt
-- is handled on its processor; of a handler that of the processor on which it runs; of a processor that in which it
-- executes.
abbrev pub context_at : BoardState → Thread → Option State
context_at b (thread.Task number) = kept_in (task_of b number)
context_at b (thread.Handler line) = registers_on b (handling b line)
context_at b (thread.Processor cpu) = registers_of b cpu

abbrev pub or_first : Option ℕ → ℕ
or_first None = 1
or_first (Some cpu) = cpu

-- the processor of a thread: that to which a task is assigned, and that on which a handler runs
abbrev pub cpu_of : BoardState → Thread → ℕ
cpu_of b (thread.Task number) = assigned_or 1 (task_of b number)
cpu_of b (thread.Handler line) = or_first (handling b line)
cpu_of b (thread.Processor cpu) = cpu

-- the last exception on a thread's processor
abbrev pub fault_at : BoardState → Thread → Option Fault
fault_at b it = fault_of b (cpu_of b it)

-- who a thread is: of a processor whom it executes
abbrev pub who_at : BoardState → Thread → Option Standing
who_at b (thread.Task number) = Some (standing.Task number)
who_at b (thread.Handler line) = Some (standing.Handler line)
who_at b (thread.Processor cpu) = standing_of b cpu

-- the thread of somebody; of nobody another one
abbrev pub thread_by : Option Standing → Thread → Thread
thread_by (Some (standing.Task number)) other = thread.Task number
thread_by (Some (standing.Handler line)) other = thread.Handler line
thread_by who other = other

-- the thread that executes on a processor; another one where none does
abbrev pub thread_on : ThreadKind → BoardState → ℕ → Thread → Thread
thread_on kind.Processors b cpu other = thread.Processor cpu
thread_on kind.Tasks b cpu other = thread_by (standing_of b cpu) other

-- the task of the lowest ID, of n from one on
abbrev pub first_task_from : BoardState → ℕ → ℕ → Option ℕ
first_task_from b zero number = None
first_task_from b (suc n) number =
    if is_some (task_of b number) then Some number else first_task_from b n (number + 1)

abbrev pub first_task : BoardState → Option ℕ
first_task b = first_task_from b 255 1

-- the thread that is shown where none executes
abbrev pub resting : BoardState → Thread
resting b = thread.Task (or_first (first_task b))

-- a processor that executes somebody: this one, else the first of them all, else this one
abbrev pub first_executing : BoardState → ℕ → ℕ → ℕ → ℕ
first_executing b zero cpu other = other
first_executing b (suc n) cpu other = if is_some (registers_of b cpu) then cpu else first_executing b n (cpu + 1) other

abbrev pub executing : BoardState → ℕ → ℕ
executing b cpu = if is_some (registers_of b cpu) then cpu else first_executing b 8 1 cpu

-- the thread of a board's first processor that executes somebody
abbrev pub executing_thread : BoardState → Thread
executing_thread b = thread_on kind.Tasks b (executing b 1) (resting b)

-- which threads a session begins with, and which of them is chosen
abbrev pub kind_by : Option ℕ → ThreadKind
kind_by None = kind.Processors
kind_by (Some number) = kind.Tasks

abbrev pub chosen_first : BoardState → Option ℕ → Thread
chosen_first b None = thread.Processor 1
chosen_first b (Some number) = executing_thread b

-- The thread at which the journal has begun or ended: this one; but a handler that has ended gives way to who
-- executes, and so does a processor that executes nobody.
abbrev pub standing_thread : ThreadKind → BoardState → Thread → Thread
standing_thread kind.Processors b it = thread.Processor (executing b (cpu_of b it))
standing_thread kind.Tasks b (thread.Task number) = thread.Task number
standing_thread kind.Tasks b (thread.Handler line) =
    if is_some (handling b line) then thread.Handler line else executing_thread b
standing_thread kind.Tasks b (thread.Processor cpu) = executing_thread b

-- the thread of whom a stepper names; of none the one that was chosen
abbrev pub stepped_who : Option Stepper → Thread → Thread
stepped_who None last = last
stepped_who (Some (Stepper.Each cpu)) last = last
stepped_who (Some (Stepper.Of who)) last = thread_by (Some who) last
stepped_who (Some (Stepper.Until cpu who start end)) last = thread_by (Some who) last

abbrev pub stepped_thread : ThreadKind → Option Stepper → BoardState → Thread → Thread
stepped_thread kind.Processors stepper b last = thread.Processor (stepped_on stepper b (cpu_of b last))
stepped_thread kind.Tasks stepper b last = stepped_who stepper last

-- tasks are threads only where there is one
abbrev pub may_show : ThreadKind → BoardState → Bool
may_show kind.Processors b = true
may_show kind.Tasks b = is_some (first_task b)

-- the thread of a number, where there is one
abbrev pub task_numbered : BoardState → ℕ → Option Thread
task_numbered b n = if is_some (task_of b n) then Some (thread.Task n) else None

abbrev pub handler_numbered : BoardState → ℕ → Option Thread
handler_numbered b line =
    if nat_lt line 160 && is_some (handling b line) then Some (thread.Handler line) else None

abbrev pub processor_numbered : BoardState → ℕ → Option Thread
processor_numbered b n = if nat_le n 8 && is_some (standing_of b n) then Some (thread.Processor n) else None

abbrev pub thread_numbered : ThreadKind → BoardState → ℕ → Option Thread
thread_numbered kind.Processors b n = processor_numbered b n
thread_numbered kind.Tasks b n = if nat_lt n 256 then task_numbered b n else handler_numbered b (n - 256)

-- and of a name; another one where any is meant
abbrev pub thread_named : ThreadKind → BoardState → ThreadId → Thread → Option Thread
thread_named kind b id.All other = Some other
thread_named kind b id.Any other = Some other
thread_named kind b (id.One number) other = thread_numbered kind b number

abbrev pub or_thread : Option Thread → Thread → Thread
or_thread None other = other
or_thread (Some it) other = it

-- A thread, after others are threads: the one of the same number, by which GDB still names it; where there is none, the
-- one that is there on its processor.
abbrev pub elsewhere : ThreadKind → BoardState → Thread → Thread
elsewhere kind.Processors b it = thread.Processor (cpu_of b it)
elsewhere kind.Tasks b it = thread_on kind.Tasks b (cpu_of b it) (resting b)

abbrev pub switched : ThreadKind → BoardState → Thread → Thread
switched kind b it = or_thread (thread_numbered kind b (number_of it)) (elsewhere kind b it)

-- the thread that a move steps: its own, else the one that steps where none is named
abbrev pub thread_for : ThreadKind → BoardState → ThreadId → Thread → Thread
thread_for kind b it other = or_thread (thread_named kind b it other) other

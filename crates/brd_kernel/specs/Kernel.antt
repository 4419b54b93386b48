-- The kernel: what it keeps, interrupts, spin locks, and what is seen of it.
use Rattle.std.specs.Prelude.{ℕ, ◌+◌, ◌-◌, ◌*◌, ◌==◌, nat_lt, Bool, true, false, not, ◌&&◌, ◌||◌, if◌then◌else◌}
use Rattle.std.specs.Prelude.{List, [], ◌∷◌, slice_index_or, slice_set, Option, None, Some, is_some}
use Rattle.std.specs.Option.{option_map}
use Rattle.brd_exec.specs.State.{State, opening}
use Rattle.brd_tasks.specs.Tasks.{TaskTable, no_context, context_at, with_context}
use Rattle.brd_time.specs.Time.{Time}
use Rattle.brd_timers.specs.declared.timer.Timer.{Timer}
use Rattle.brd_timers.specs.Timers.{timer_at}
use Rattle.brd_objects.specs.declared.semaphore.Semaphore.{Semaphore}
use Rattle.brd_objects.specs.declared.flag.Flag.{Flag}
use Rattle.brd_objects.specs.declared.mutex.Mutex.{Mutex}
use Rattle.brd_objects.specs.Table.{Table, object_at}
use Rattle.brd_objects.specs.DataQueues.{DataQueueState}
use Rattle.brd_objects.specs.Pools.{PoolState}
use Rattle.brd_objects.specs.Mailboxes.{MailboxState}
use Rattle.brd_kernel.specs.declared.processor.Processor.{Processor}
use Rattle.brd_kernel.specs.declared.processor.Handler.{Handler}
use Rattle.brd_kernel.specs.declared.processor.InterruptLine.{InterruptLine}
use Rattle.brd_kernel.specs.declared.processor.Marks.{Marks}
use Rattle.brd_kernel.specs.declared.processor.Standing.{Standing}
use Rattle.brd_kernel.specs.declared.processor.Spin.{Spin}
use Rattle.brd_kernel.specs.declared.processor.Spin.TheVariants as spin
use Rattle.brd_kernel.specs.declared.processor.Executor.{Executor}
use Rattle.brd_kernel.specs.declared.processor.Executor.TheVariants as executor
use Rattle.brd_kernel.specs.declared.processor.Standing.TheVariants as standing

pub record KernelState : Type 0 where
  pub off : Bool
  pub standard : Bool  -- it has the profile PROFILE(STANDARD), so the calls above 63; never changes
  pub clock : ℕ  -- what the system time was before the first tick; it goes on with the ticks, modulo 2^32
  pub time : Time  -- the ticks so far, and when waits end
  pub timers : List (Option Timer)  -- the time handlers by their places: 128 of them with the profile, else none
  pub tasks : TaskTable
  pub semaphores : Table Semaphore  -- by ID, 256 of them, as the five below
  pub flags : Table Flag
  pub queues : Table DataQueueState
  pub mutexes : Table Mutex
  pub pools : Table PoolState
  pub mailboxes : Table MailboxState
  pub spin_locks : List Bool  -- by ID, 256 of them: whether there is one; who holds it, its processor says
  pub processors : List (Option Processor)  -- by number, 9 of them: None at 0 and where the board has no such processor
  -- by the processor's number, 9 of them: the context of the handler that runs there; any, where none runs
  pub handler_contexts : List State
  -- by number, 32 of them; with the profile 160, and those above 31 are of time handlers
  pub lines : List InterruptLine
  pub console : List ℕ  -- the bytes that were written to it

-- the processor of a number, where there is one
abbrev pub processor_at : KernelState → ℕ → Option Processor
processor_at k cpu = slice_index_or k.processors cpu None

-- a processor on which nothing runs
abbrev pub idle : Processor
idle = record { running = None; handling = None; locked = false; disabled = false; spin = None; stopped = false }

-- A processor is held while it handles an interrupt, is CPU-locked, has dispatching disabled or is stopped: its running
-- task stays, whoever else is ready.
abbrev pub is_held : Processor → Bool
is_held p = is_some p.handling || p.locked || p.disabled || p.stopped

abbrev pub running_in : Option Processor → Option ℕ
running_in None = None
running_in (Some p) = p.running

-- the running task of a processor
abbrev pub running_on : KernelState → ℕ → Option ℕ
running_on k cpu = running_in (processor_at k cpu)

abbrev pub with_tasks : KernelState → TaskTable → KernelState
with_tasks k tasks = record k { tasks = tasks }

abbrev pub with_processor : KernelState → ℕ → Processor → KernelState
with_processor k cpu p = record k { processors = slice_set k.processors cpu (Some p) }

-- Who executes on a processor: its handler, else its running task; nobody where it is stopped or idle.

abbrev pub executor_by : Option ℕ → Option ℕ → Option Executor
executor_by running (Some line) = Some executor.Handler
executor_by (Some id) None = Some (executor.Task id)
executor_by None None = None

abbrev pub executor_in : Option Processor → Option Executor
executor_in None = None
executor_in (Some p) = if p.stopped then None else executor_by p.running p.handling

abbrev pub executor_on : KernelState → ℕ → Option Executor
executor_on k cpu = executor_in (processor_at k cpu)

-- the context of the handler that runs on a processor
abbrev pub handler_context_at : KernelState → ℕ → State
handler_context_at k cpu = slice_index_or k.handler_contexts cpu no_context

-- the context of who executes on a processor
abbrev pub context_of : KernelState → ℕ → Executor → State
context_of k cpu executor.Handler = handler_context_at k cpu
context_of k cpu (executor.Task id) = context_at k.tasks id

-- the kernel with another context of who executes on a processor
abbrev pub with_context_of : KernelState → ℕ → Executor → State → KernelState
with_context_of k cpu executor.Handler context =
    record k { handler_contexts = slice_set k.handler_contexts cpu context }
with_context_of k cpu (executor.Task id) context = with_tasks k (with_context k.tasks id context)

-- the context in which a processor executes, if it does
abbrev pub context_on : KernelState → ℕ → Option State
context_on k cpu = option_map (context_of k cpu) (executor_on k cpu)

-- Interrupts.

-- How many lines there are. Those from 0 to 31 are raised from outside, and have the handlers of DEF_INH; with the
-- profile the others are raised by the kernel, and have the time handlers: the cyclic handler of ID c has line
-- 30 + 2 * c, the alarm handler of ID a line 31 + 2 * a (own choice).
abbrev pub line_count : Bool → ℕ
line_count standard = if standard then 160 else 32

-- the places of time handlers by their IDs, and the line of the time handler at a place

abbrev pub cyclic_place : ℕ → ℕ
cyclic_place id = 2 * id - 2

abbrev pub alarm_place : ℕ → ℕ
alarm_place id = 2 * id - 1

abbrev pub timer_line : ℕ → ℕ
timer_line place = place + 32

-- the tick at which the time handler at a place is due next; None where it is stopped, or isn't there

abbrev pub due_in : Option Timer → Option ℕ
due_in None = None
due_in (Some timer) = timer.due

abbrev pub timer_due : KernelState → ℕ → Option ℕ
timer_due k place = due_in (timer_at k.timers place)

-- a line with nothing pending
abbrev pub quiet : Option Handler → InterruptLine
quiet handler = record { handler = handler; pending = false }

abbrev pub is_handled_by : ℕ → Option Handler → Bool
is_handled_by cpu None = false
is_handled_by cpu (Some handler) = handler.cpu == cpu

-- the first line, from number `n` on, that is pending for a processor
abbrev pub pending_from : ℕ → ℕ → List InterruptLine → Option ℕ
pending_from cpu n [] = None
pending_from cpu n (line ∷ lines) =
    if line.pending && is_handled_by cpu line.handler then Some n else pending_from cpu (n + 1) lines

-- a processor accepts no interrupt while it handles one, is CPU-locked or stopped
abbrev pub accepts : Option Processor → Bool
accepts None = false
accepts (Some p) = not (is_some p.handling || p.locked || p.stopped)

-- the line whose interrupt a processor accepts next: the lowest that is pending for it
abbrev pub deliverable : KernelState → ℕ → Option ℕ
deliverable k cpu = if accepts (processor_at k cpu) then pending_from cpu 0 k.lines else None

-- the line of a number; one that isn't there has no handler
abbrev pub line_at : KernelState → ℕ → InterruptLine
line_at k line = slice_index_or k.lines line (quiet None)

-- the kernel with a line pending
abbrev pub with_pending : KernelState → ℕ → KernelState
with_pending k line = record k { lines = slice_set k.lines line (record (line_at k line) { pending = true }) }

-- a line that can be raised from outside: one of the lowest 32 that has a handler (the others the kernel raises itself)
abbrev pub can_be_raised : KernelState → ℕ → Bool
can_be_raised k line = nat_lt line 32 && is_some (line_at k line).handler

-- an interrupt is raised from outside: the line is pending from then on, if it can be raised
abbrev pub raised : KernelState → ℕ → KernelState
raised k line = if can_be_raised k line then with_pending k line else k

-- the context in which the handler of a line starts: at its address, all registers 0 but its argument in $a0 (at 0,
-- with the line there, where there is no handler)
abbrev pub entry_of : ℕ → Option Handler → State
entry_of line None = opening 0 line 0
entry_of line (Some handler) = opening handler.address handler.argument 0

abbrev pub handles : KernelState → ℕ → ℕ → Option Processor → KernelState
handles k cpu line None = k
handles k cpu line (Some p) = record k {
  lines = slice_set k.lines line (record (line_at k line) { pending = false });
  processors = slice_set k.processors cpu (Some (record p { handling = Some line }));
  handler_contexts = slice_set k.handler_contexts cpu (entry_of line (line_at k line).handler);
}

-- a processor begins to handle the interrupt of a line
abbrev pub accepted_line : KernelState → ℕ → ℕ → KernelState
accepted_line k cpu line = handles k cpu line (processor_at k cpu)

abbrev pub accepted_in : KernelState → ℕ → Option ℕ → KernelState
accepted_in k cpu None = k
accepted_in k cpu (Some line) = accepted_line k cpu line

-- a processor accepts the interrupt that is deliverable to it, if one is
abbrev pub accepted : KernelState → ℕ → KernelState
accepted k cpu = accepted_in k cpu (deliverable k cpu)

-- Spin locks. A processor holds one at most, and is CPU-locked while it does.

-- a processor with neither mark, which holds no spin lock
abbrev pub unmarked : Processor → Processor
unmarked p = record p { locked = false; disabled = false; spin = None }

-- a processor that takes the spin lock of an ID, and one that gives its spin lock back

abbrev pub holding : ℕ → Processor → Processor
holding id p = record p { locked = true; spin = Some id }

abbrev pub letting_go : Processor → Processor
letting_go p = record p { locked = false; spin = None }

abbrev pub is_spin : ℕ → Option ℕ → Bool
is_spin id None = false
is_spin id (Some held) = held == id

-- a processor holds the spin lock of an ID
abbrev pub holds : ℕ → Option Processor → Bool
holds id None = false
holds id (Some p) = is_spin id p.spin

-- the first processor, from number `cpu` on, that holds it
abbrev pub holder_from : ℕ → ℕ → List (Option Processor) → Option ℕ
holder_from id cpu [] = None
holder_from id cpu (p ∷ ps) = if holds id p then Some cpu else holder_from id (cpu + 1) ps

abbrev pub spin_by : Option ℕ → Spin
spin_by None = spin.Free
spin_by (Some cpu) = spin.Held cpu

abbrev pub has_spin_lock : KernelState → ℕ → Bool
has_spin_lock k id = slice_index_or k.spin_locks id false

-- a spin lock as it stands, where there is one of that ID
abbrev pub spin_of : KernelState → ℕ → Option Spin
spin_of k id = if has_spin_lock k id then Some (spin_by (holder_from id 0 k.processors)) else None

-- who has a mutex, if there is one of that ID and a task has it

abbrev pub owner_in : Option Mutex → Option ℕ
owner_in None = None
owner_in (Some m) = m.owner

abbrev pub owner_of : KernelState → ℕ → Option ℕ
owner_of k id = owner_in (object_at k.mutexes id)

-- What is seen of a processor.

abbrev pub marks_of : Processor → Marks
marks_of p = record { locked = p.locked; disabled = p.disabled; spin = p.spin }

abbrev pub standing_by : Option ℕ → Option ℕ → Standing
standing_by running (Some line) = standing.Handler line
standing_by (Some id) None = standing.Task id
standing_by None None = standing.Idle

abbrev pub standing_in : Processor → Standing
standing_in p = if p.stopped then standing.Stopped else standing_by p.running p.handling

abbrev pub standing_on : KernelState → ℕ → Option Standing
standing_on k cpu = option_map standing_in (processor_at k cpu)

-- The board: what it consists of, what one event does to it, and what a list of events does.
use Rattle.std.specs.Prelude.{ℕ, nat_lt, nat_le, ◌&&◌, if◌then◌else◌, List, [], ◌∷◌, slice_index_or, slice_set, Option}
use Rattle.std.specs.Prelude.{Some, None}
use Rattle.brd_link.specs.LinkSet.{LinkSet, linked_address, without, without_all}
use Rattle.brd_mem.specs.Memory.{Memory}
use Rattle.brd_exec.specs.State.{State}
use Rattle.brd_exec.specs.declared.outcome.Outcome.{Outcome}
use Rattle.brd_exec.specs.declared.outcome.Outcome.TheVariants.{Done, Syscall, Exception}
use Rattle.brd_tasks.specs.declared.task.TaskView.{TaskView}
use Rattle.brd_time.specs.Time.{last_count, advanced}
use Rattle.brd_kernel.specs.declared.processor.Processor.{Processor}
use Rattle.brd_kernel.specs.declared.processor.Standing.{Standing}
use Rattle.brd_kernel.specs.declared.processor.Spin.{Spin}
use Rattle.brd_kernel.specs.Kernel.{KernelState, processor_at, context_on, deliverable, accepted_line, with_pending}
use Rattle.brd_kernel.specs.Kernel.{can_be_raised, standing_on, spin_of, owner_of}
use Rattle.brd_kernel.specs.Waits.{ended_by_fault, ticked_on, seen_at}
use Rattle.brd_kernel.specs.Dispatch.{dispatched, changed_processors}
use Rattle.brd_sysgate.specs.Gate.{called}
use Rattle.brd_board.specs.Executing.{Executed, executed}
use Rattle.brd_board.specs.declared.event.Event.{Event}
use Rattle.brd_board.specs.declared.event.Event.TheVariants.{Step, Tick, Raise}
use Rattle.brd_board.specs.declared.event.Report.{Report}
use Rattle.brd_board.specs.declared.event.Report.TheVariants as report
use Rattle.brd_board.specs.declared.view.Fault.{Fault}

pub record BoardState : Type 0 where
  pub kernel : KernelState
  pub memory : Memory
  pub links : LinkSet
  pub faults : List (Option Fault)  -- by the processor's number: its last exception

-- the board after an event, and what it reports
pub record Happened : Type 0 where
  pub board : BoardState
  pub report : Report

-- this board and this report, without a dispatch
abbrev pub reported : BoardState → Report → Happened
reported b told = record { board = b; report = told }

-- Dispatch: each processor that isn't held runs the first of its ready tasks, and the link of each processor whose
-- running task has become another ends. It comes after all that may change who is ready.
abbrev pub dispatched_board : BoardState → BoardState
dispatched_board b = record b {
  kernel = dispatched b.kernel;
  links = without_all b.links (changed_processors b.kernel (dispatched b.kernel));
}

abbrev pub then_dispatched : BoardState → Report → Happened
then_dispatched b told = record { board = dispatched_board b; report = told }

-- what an instruction left
abbrev pub with_executed : BoardState → Executed → BoardState
with_executed b e = record b { kernel = e.kernel; memory = e.memory; links = e.links }

-- a service call: it ends the processor's link, and is served
abbrev pub with_call : BoardState → ℕ → BoardState
with_call b cpu = record b { kernel = called b.kernel cpu; links = without b.links cpu }

-- an exception: it is kept as the processor's last one, and ends what the processor executes
abbrev pub with_fault : BoardState → ℕ → Fault → BoardState
with_fault b cpu fault = record b { kernel = ended_by_fault b.kernel cpu; faults = slice_set b.faults cpu (Some fault) }

-- what follows an instruction at an address, by how it ended
abbrev pub instruction_done : BoardState → ℕ → ℕ → Outcome → Happened
instruction_done b cpu address Done = reported b (report.Ran address)
instruction_done b cpu address Syscall = then_dispatched (with_call b cpu) (report.Called address)
instruction_done b cpu address (Exception code epc bd) =
    then_dispatched (with_fault b cpu (record { code = code; epc = epc; bd = bd })) (report.Faulted address)

-- nobody executes, or an instruction is done
abbrev pub executes_in : BoardState → ℕ → Option Executed → Happened
executes_in b cpu None = reported b report.Idle
executes_in b cpu (Some e) = instruction_done (with_executed b e) cpu e.ended.address e.ended.outcome

-- one instruction of the handler, else of the running task, if there is one
abbrev pub executes : BoardState → ℕ → Happened
executes b cpu = executes_in b cpu (executed b.kernel cpu b.memory b.links)

-- an interrupt is accepted, which ends the link; or an instruction is executed
abbrev pub accepts_or_executes : BoardState → ℕ → Option ℕ → Happened
accepts_or_executes b cpu (Some line) =
    then_dispatched (record b { kernel = accepted_line b.kernel cpu line; links = without b.links cpu })
    (report.Accepted line)
accepts_or_executes b cpu None = executes b cpu

abbrev pub stepped_in : BoardState → ℕ → Option Processor → Happened
stepped_in b cpu None = reported b report.NoSuch
stepped_in b cpu (Some p) =
    if p.stopped then reported b report.Stopped else accepts_or_executes b cpu (deliverable b.kernel cpu)

-- a processor does its next step
abbrev pub stepped : BoardState → ℕ → Happened
stepped b cpu = stepped_in b cpu (processor_at b.kernel cpu)

-- a tick passes: the waits end whose tick has come, and time handlers are due; unless the last one has been counted
abbrev pub tick_passed : BoardState → Happened
tick_passed b =
    if nat_lt b.kernel.time.count last_count
    then then_dispatched (record b { kernel = ticked_on b.kernel (advanced b.kernel.time) }) report.Ticked
    else reported b report.TimeOver

-- an interrupt is raised, where its line can be raised
abbrev pub line_raised : BoardState → ℕ → Happened
line_raised b line =
    if can_be_raised b.kernel line
    then reported (record b { kernel = with_pending b.kernel line }) report.Raised
    else reported b report.NoSuch

-- what an event does to a board that is on
abbrev pub happens_on : BoardState → Event → Happened
happens_on b (Step cpu) = stepped b cpu
happens_on b Tick = tick_passed b
happens_on b (Raise line) = line_raised b line

-- what an event does; nothing happens to a board that is off
unfoldable pub happens : BoardState → Event → Happened
happens b event = if b.kernel.off then reported b report.Off else happens_on b event

-- the board after a list of events
abbrev pub after : BoardState → List Event → BoardState
after b [] = b
after b (event ∷ events) = after (happens b event).board events

-- what a processor is doing, where there is one of that number
abbrev pub standing_of : BoardState → ℕ → Option Standing
standing_of b cpu = standing_on b.kernel cpu

-- the context in which a processor executes
abbrev pub registers_of : BoardState → ℕ → Option State
registers_of b cpu = context_on b.kernel cpu

-- the word that a processor's link is to, where it has one
abbrev pub linked_word_of : BoardState → ℕ → Option ℕ
linked_word_of b cpu = if nat_le 1 cpu && nat_le cpu 8 then linked_address b.links cpu else None

-- a processor's last fault
abbrev pub fault_of : BoardState → ℕ → Option Fault
fault_of b cpu = slice_index_or b.faults cpu None

-- a spin lock as it stands, where one of that ID is configured
abbrev pub spin_lock_of : BoardState → ℕ → Option Spin
spin_lock_of b id = spin_of b.kernel id

-- who has a mutex, if one of that ID is configured and a task has it
abbrev pub mutex_owner_of : BoardState → ℕ → Option ℕ
mutex_owner_of b id = owner_of b.kernel id

-- a task as it stands
abbrev pub task_of : BoardState → ℕ → Option TaskView
task_of b id = seen_at b.kernel id

-- No event changes how many bytes RAM has, or their order.
use Rattle.std.proofs.Common.{◌≡◌, ℕ, List, [], ◌∷◌, refl, ◌∙◌}
use Rattle.std.specs.Prelude.{Bool, true, false, Option, None, Some, if◌then◌else◌, nat_lt}
use Rattle.brd_mem.specs.Memory.{Memory, size_of}
use Rattle.brd_exec.specs.State.{State}
use Rattle.brd_exec.specs.Step.{Ran, ran}
use Rattle.brd_exec.specs.declared.outcome.Outcome.{Outcome}
use Rattle.brd_exec.specs.declared.outcome.Outcome.TheVariants.{Done, Syscall, Exception}
use Rattle.brd_exec.proofs.FormLemmas.{IsAlike, form-ran}
use Rattle.brd_time.specs.Time.{last_count, advanced}
use Rattle.brd_kernel.specs.declared.processor.Processor.{Processor}
use Rattle.brd_kernel.specs.Kernel.{context_of, executor_on, deliverable, processor_at, with_pending, can_be_raised}
use Rattle.brd_board.specs.Executing.{executed_by, executed_in}
use Rattle.brd_kernel.specs.declared.processor.Executor.{Executor}
use Rattle.brd_kernel.specs.Waits.{ticked_on}
use Rattle.brd_board.specs.declared.event.Event.{Event}
use Rattle.brd_board.specs.declared.event.Event.TheVariants.{Step, Tick, Raise}
use Rattle.brd_board.specs.declared.event.Report.TheVariants as report
use Rattle.brd_board.specs.Board.{BoardState, Happened, reported, then_dispatched, with_executed, instruction_done, executes_in, accepts_or_executes, stepped_in, happens_on, happens, after}

abbrev SameForm : BoardState → Happened → Type 0
SameForm b new = IsAlike b.memory new.board.memory

-- nothing was stored
as-it-was : (memory : Memory) → IsAlike memory memory
as-it-was memory = (refl, refl)

form-either : (test : Bool) (b : BoardState) (one other : Happened) → SameForm b one → SameForm b other → SameForm b (if test then one else other)
form-either true b one other same else_same = same
form-either false b one other same else_same = else_same

form-done : (b c : BoardState) (cpu address : ℕ) (outcome : Outcome) → IsAlike b.memory c.memory →
    SameForm b (instruction_done c cpu address outcome)
form-done b c cpu address Done same = same
form-done b c cpu address Syscall same = same
form-done b c cpu address (Exception code epc bd) same = same

form-executing : (b : BoardState) (cpu : ℕ) (who : Option Executor) → SameForm b (executes_in b cpu (executed_in b.kernel cpu b.memory b.links who))
form-executing b cpu None = as-it-was b.memory
form-executing b cpu (Some who) =
    let s : State = context_of b.kernel cpu who in
    let left : Ran = ran cpu s b.memory b.links in
    form-done b (with_executed b (executed_by b.kernel cpu who s.pc left)) cpu s.pc left.outcome (form-ran cpu s b.memory b.links)

form-accepting : (b : BoardState) (cpu : ℕ) (line : Option ℕ) → SameForm b (accepts_or_executes b cpu line)
form-accepting b cpu None = form-executing b cpu (executor_on b.kernel cpu)
form-accepting b cpu (Some line) = as-it-was b.memory

form-stepping : (b : BoardState) (cpu : ℕ) (found : Option Processor) → SameForm b (stepped_in b cpu found)
form-stepping b cpu None = as-it-was b.memory
form-stepping b cpu (Some p) =
    form-either p.stopped b (reported b report.Stopped) (accepts_or_executes b cpu (deliverable b.kernel cpu)) (as-it-was b.memory)
    (form-accepting b cpu (deliverable b.kernel cpu))

form-on : (b : BoardState) (event : Event) → SameForm b (happens_on b event)
form-on b (Step cpu) = form-stepping b cpu (processor_at b.kernel cpu)
form-on b Tick =
    form-either (nat_lt b.kernel.time.count last_count) b
    (then_dispatched (record b { kernel = ticked_on b.kernel (advanced b.kernel.time) }) report.Ticked) (reported b report.TimeOver) (as-it-was b.memory) (as-it-was b.memory)
form-on b (Raise line) =
    form-either (can_be_raised b.kernel line) b
    (reported (record b { kernel = with_pending b.kernel line }) report.Raised) (reported b report.NoSuch) (as-it-was b.memory) (as-it-was b.memory)

pub form-happens : (b : BoardState) (event : Event) → IsAlike b.memory (happens b event).board.memory
unfolding happens
form-happens b event = form-either b.kernel.off b (reported b report.Off) (happens_on b event) (as-it-was b.memory) (form-on b event)

pub size-after : (b : BoardState) (events : List Event) → size_of (after b events).memory ≡ size_of b.memory
size-after b [] = refl
size-after b (event ∷ events) = size-after (happens b event).board events ∙ (form-happens b event).0

pub order-after : (b : BoardState) (events : List Event) → (after b events).memory.order ≡ b.memory.order
order-after b [] = refl
order-after b (event ∷ events) = order-after (happens b event).board events ∙ (form-happens b event).1

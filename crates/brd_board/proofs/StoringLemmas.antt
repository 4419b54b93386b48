-- An event that is no step with a store leaves memory.
use Rattle.std.proofs.Common.{◌≡◌, ℕ, refl}
use Rattle.std.specs.Prelude.{Bool, true, false, Option, None, Some, if◌then◌else◌, nat_lt, option_map}
use Rattle.brd_exec.specs.State.{State}
use Rattle.brd_exec.specs.Step.{Ran, ran}
use Rattle.brd_exec.specs.declared.outcome.Outcome.{Outcome}
use Rattle.brd_exec.specs.declared.outcome.Outcome.TheVariants.{Done, Syscall, Exception}
use Rattle.brd_exec.proofs.StoringLemmas.{kept-ran}
use Rattle.brd_time.specs.Time.{last_count, advanced}
use Rattle.brd_kernel.specs.declared.processor.Processor.{Processor}
use Rattle.brd_kernel.specs.Kernel.{context_of, context_on, executor_on, deliverable, processor_at, with_pending, can_be_raised}
use Rattle.brd_board.specs.Executing.{executed_by, executed_in}
use Rattle.brd_kernel.specs.declared.processor.Executor.{Executor}
use Rattle.brd_kernel.specs.Waits.{ticked_on}
use Rattle.brd_board.specs.declared.event.Event.{Event}
use Rattle.brd_board.specs.declared.event.Event.TheVariants.{Step, Tick, Raise}
use Rattle.brd_board.specs.declared.event.Report.TheVariants as report
use Rattle.brd_board.specs.Board.{BoardState, Happened, reported, then_dispatched, with_executed, instruction_done, executes_in, accepts_or_executes, stepped_in, happens_on, happens}
use Rattle.brd_board.specs.Storing.{may_store_in, may_store}

abbrev SameMemory : BoardState → Happened → Type 0
SameMemory b new = new.board.memory ≡ b.memory

same-either : (test : Bool) (b : BoardState) (one other : Happened) → SameMemory b one → SameMemory b other → SameMemory b (if test then one else other)
same-either true b one other same else_same = same
same-either false b one other same else_same = else_same

same-done : (b c : BoardState) (cpu address : ℕ) (outcome : Outcome) → c.memory ≡ b.memory → SameMemory b (instruction_done c cpu address outcome)
same-done b c cpu address Done same = same
same-done b c cpu address Syscall same = same
same-done b c cpu address (Exception code epc bd) same = same

same-executing : (b : BoardState) (cpu : ℕ) (who : Option Executor) → may_store_in (option_map (context_of b.kernel cpu) who) b.memory ≡ false →
    SameMemory b (executes_in b cpu (executed_in b.kernel cpu b.memory b.links who))
same-executing b cpu None none = refl
same-executing b cpu (Some who) none =
    let s : State = context_of b.kernel cpu who in
    let left : Ran = ran cpu s b.memory b.links in
    same-done b (with_executed b (executed_by b.kernel cpu who s.pc left)) cpu s.pc left.outcome (kept-ran cpu s b.memory b.links none)

same-accepting : (b : BoardState) (cpu : ℕ) (line : Option ℕ) → may_store_in (context_on b.kernel cpu) b.memory ≡ false →
    SameMemory b (accepts_or_executes b cpu line)
same-accepting b cpu None none = same-executing b cpu (executor_on b.kernel cpu) none
same-accepting b cpu (Some line) none = refl

same-stepping : (b : BoardState) (cpu : ℕ) (found : Option Processor) → may_store_in (context_on b.kernel cpu) b.memory ≡ false →
    SameMemory b (stepped_in b cpu found)
same-stepping b cpu None none = refl
same-stepping b cpu (Some p) none =
    same-either p.stopped b (reported b report.Stopped) (accepts_or_executes b cpu (deliverable b.kernel cpu)) refl
    (same-accepting b cpu (deliverable b.kernel cpu) none)

same-on : (b : BoardState) (event : Event) → may_store b event ≡ false → SameMemory b (happens_on b event)
same-on b (Step cpu) none = same-stepping b cpu (processor_at b.kernel cpu) none
same-on b Tick none =
    same-either (nat_lt b.kernel.time.count last_count) b
    (then_dispatched (record b { kernel = ticked_on b.kernel (advanced b.kernel.time) }) report.Ticked) (reported b report.TimeOver) refl refl
same-on b (Raise line) none =
    same-either (can_be_raised b.kernel line) b
    (reported (record b { kernel = with_pending b.kernel line }) report.Raised) (reported b report.NoSuch) refl refl

pub same-happens : (b : BoardState) (event : Event) → may_store b event ≡ false → (happens b event).board.memory ≡ b.memory
unfolding happens
same-happens b event none = same-either b.kernel.off b (reported b report.Off) (happens_on b event) refl (same-on b event none)

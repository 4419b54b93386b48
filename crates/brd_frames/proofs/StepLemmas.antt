-- What a step reports, and how it goes by what is so on the board.
use Rattle.std.proofs.Common.{◌≡◌, ℕ, Bool, true, false, refl, ap, subst, ◌∙◌}
use Rattle.std.specs.Prelude.{if◌then◌else◌, Option, None, Some}
use Rattle.brd_exec.specs.State.{State}
use Rattle.brd_exec.specs.Step.{Ran, ran}
use Rattle.brd_exec.specs.Kept.{KeepsUnlessDone}
use Rattle.brd_exec.specs.declared.outcome.Outcome.{Outcome}
use Rattle.brd_exec.specs.declared.outcome.Outcome.TheVariants.{Syscall}
use Rattle.brd_exec.proofs.KeptLemmas.{keeps-ran}
use Rattle.brd_kernel.specs.declared.processor.Processor.{Processor}
use Rattle.brd_kernel.specs.declared.processor.Executor.{Executor}
use Rattle.brd_kernel.specs.Kernel.{KernelState, processor_at, executor_by, executor_in, executor_on, context_of, deliverable, pending_from, accepts}
use Rattle.brd_board.specs.Executing.{executed_by, executed_in}
use Rattle.brd_board.specs.declared.event.Event.TheVariants.{Step}
use Rattle.brd_board.specs.declared.event.Report.TheVariants as report
use Rattle.brd_board.specs.Board.{BoardState, Happened, reported, with_executed, instruction_done, executes_in, accepts_or_executes, stepped_in, stepped, happens}

isnt-stopped : (stopped : Bool) (by : Option Executor) (who : Executor) → (if stopped then None else by) ≡ Some who → stopped ≡ false
isnt-stopped true by who is = let wrong : ⊥ = cc in absurd wrong
isnt-stopped false by who is = refl

-- who executes does so on a processor that is there, and isn't stopped
pub executes-on : (found : Option Processor) (who : Executor) → executor_in found ≡ Some who →
    (p : Processor) × (found ≡ Some p) × (p.stopped ≡ false)
executes-on None who is = let wrong : ⊥ = cc in absurd wrong
executes-on (Some p) who is = (p, refl, isnt-stopped p.stopped (executor_by p.running p.handling) who is)

-- what an instruction of a processor leaves
abbrev pub left_by : BoardState → ℕ → Executor → Ran
left_by b cpu who = ran cpu (context_of b.kernel cpu who) b.memory b.links

-- a step that executes an instruction
pub step-is : (b : BoardState) (cpu : ℕ) (who : Executor) → b.kernel.off ≡ false → executor_on b.kernel cpu ≡ Some who →
    deliverable b.kernel cpu ≡ None →
    happens b (Step cpu)
    ≡ instruction_done (with_executed b (executed_by b.kernel cpu who (context_of b.kernel cpu who).pc (left_by b cpu who))) cpu
    (context_of b.kernel cpu who).pc (left_by b cpu who).outcome
unfolding happens
step-is b cpu who is-on executes uninterrupted =
    let on = executes-on (processor_at b.kernel cpu) who executes in
    ap (λ test. if test then reported b report.Off else stepped b cpu) is-on
    ∙ ap (stepped_in b cpu) on.1
    ∙ ap (λ test. if test then reported b report.Stopped else accepts_or_executes b cpu (deliverable b.kernel cpu)) on.2
    ∙ ap (accepts_or_executes b cpu) uninterrupted
    ∙ ap (λ by. executes_in b cpu (executed_in b.kernel cpu b.memory b.links by)) executes

called-report : (b : BoardState) (cpu address : ℕ) (outcome : Outcome) → outcome ≡ Syscall →
    (instruction_done b cpu address outcome).report ≡ report.Called address
called-report b cpu address outcome is = ap (λ o. (instruction_done b cpu address o).report) is

-- a SYSCALL is reported as such
pub step-calls : (b : BoardState) (cpu : ℕ) (who : Executor) → b.kernel.off ≡ false → executor_on b.kernel cpu ≡ Some who →
    deliverable b.kernel cpu ≡ None → (left_by b cpu who).outcome ≡ Syscall →
    (happens b (Step cpu)).report ≡ report.Called (context_of b.kernel cpu who).pc
step-calls b cpu who on executes free is =
    ap (λ (done : Happened). done.report) (step-is b cpu who on executes free)
    ∙ called-report (with_executed b (executed_by b.kernel cpu who (context_of b.kernel cpu who).pc (left_by b cpu who))) cpu
    (context_of b.kernel cpu who).pc (left_by b cpu who).outcome is

-- and leaves the context as it was
pub syscall-keeps : (b : BoardState) (cpu : ℕ) (who : Executor) → (left_by b cpu who).outcome ≡ Syscall →
    (left_by b cpu who).state ≡ context_of b.kernel cpu who
syscall-keeps b cpu who is =
    let s : State = context_of b.kernel cpu who in
    (subst (λ o. KeepsUnlessDone cpu s b.memory b.links (left_by b cpu who) o) is (keeps-ran cpu s b.memory b.links)).context

accepts-by : (test : Bool) (found : Option ℕ) (line : ℕ) → (if test then found else None) ≡ Some line → test ≡ true
accepts-by true found line is = refl
accepts-by false found line is = let wrong : ⊥ = cc in absurd wrong

-- a processor to which an interrupt is deliverable accepts one
pub deliverable-accepts : (k : KernelState) (cpu line : ℕ) → deliverable k cpu ≡ Some line → accepts (processor_at k cpu) ≡ true
deliverable-accepts k cpu line is = accepts-by (accepts (processor_at k cpu)) (pending_from cpu 0 k.lines) line is

-- What a step reports, and what is so on the board then.
use Rattle.std.proofs.Common.{◌≡◌, ℕ, Bool, true, false, refl, sym, ap, subst, ◌∙◌}
use Rattle.std.specs.Prelude.{if◌then◌else◌, Option, None, Some}
use Rattle.std.proofs.lemmas.Bool.{false≢true}
use Rattle.std.specs.Option.{option_map}
use Rattle.brd_exec.specs.declared.outcome.Outcome.{Outcome}
use Rattle.brd_exec.specs.declared.outcome.Outcome.TheVariants.{Done, Syscall, Exception}
use Rattle.brd_kernel.specs.declared.processor.Processor.{Processor}
use Rattle.brd_kernel.specs.declared.processor.Executor.{Executor}
use Rattle.brd_exec.specs.Step.{ran}
use Rattle.brd_kernel.specs.Kernel.{processor_at, executor_by, executor_in, executor_on, context_of, deliverable}
use Rattle.brd_board.specs.Executing.{Executed, executed_by, executed_in}
use Rattle.brd_board.specs.declared.event.Event.{Event}
use Rattle.brd_board.specs.declared.event.Event.TheVariants.{Step, Tick, Raise}
use Rattle.brd_board.specs.declared.event.Report.{Report}
use Rattle.brd_board.specs.declared.event.Report.TheVariants as report
use Rattle.brd_board.specs.Board.{BoardState, Happened, reported, with_executed, instruction_done, executes_in, accepts_or_executes, stepped_in, stepped, happens}
use Rattle.brd_frames.specs.Agents.{Agent, agent_by, agent_on}
use Rattle.brd_frames.specs.Reducing.{IsQuiet}
use Rattle.brd_blocks.specs.Stepping.{IsIdle}

-- an instruction was executed
abbrev pub is_executed : Report → Bool
is_executed report.Off = false
is_executed report.NoSuch = false
is_executed report.Stopped = false
is_executed (report.Accepted line) = false
is_executed (report.Ran address) = true
is_executed (report.Called address) = true
is_executed (report.Faulted address) = true
is_executed report.Idle = false
is_executed report.Ticked = false
is_executed report.TimeOver = false
is_executed report.Raised = false

-- nobody executes
abbrev pub is_silent : Report → Bool
is_silent report.Off = false
is_silent report.NoSuch = true
is_silent report.Stopped = true
is_silent (report.Accepted line) = false
is_silent (report.Ran address) = false
is_silent (report.Called address) = false
is_silent (report.Faulted address) = false
is_silent report.Idle = true
is_silent report.Ticked = false
is_silent report.TimeOver = false
is_silent report.Raised = false

-- How a step goes: the board is off; nobody executes; an interrupt is accepted; or an instruction is executed.
pub data Course (b : BoardState) (cpu : ℕ) (done : Happened) : Type 0 where
  off : b.kernel.off ≡ true → done ≡ reported b report.Off → Course b cpu done
  idle : executor_on b.kernel cpu ≡ None → done.board ≡ b → is_silent done.report ≡ true → Course b cpu done
  accepts : (line : ℕ) → deliverable b.kernel cpu ≡ Some line → done.report ≡ report.Accepted line → Course b cpu done
  runs : b.kernel.off ≡ false → deliverable b.kernel cpu ≡ None → is_executed done.report ≡ true → Course b cpu done

done-executed : (after : BoardState) (cpu address : ℕ) (outcome : Outcome) → is_executed (instruction_done after cpu address outcome).report ≡ true
done-executed after cpu address Done = refl
done-executed after cpu address Syscall = refl
done-executed after cpu address (Exception code epc bd) = refl

some-executed : (b : BoardState) (cpu : ℕ) (e : Executed) → is_executed (executes_in b cpu (Some e)).report ≡ true
some-executed b cpu e = done-executed (with_executed b e) cpu e.ended.address e.ended.outcome

executes-course : (b : BoardState) (cpu : ℕ) (by : Option Executor) → b.kernel.off ≡ false → deliverable b.kernel cpu ≡ None →
    executor_on b.kernel cpu ≡ by → Course b cpu (executes_in b cpu (executed_in b.kernel cpu b.memory b.links by))
executes-course b cpu None on free same = Course.idle same refl refl
executes-course b cpu (Some who) on free same =
    Course.runs on free
    (some-executed b cpu (executed_by b.kernel cpu who (context_of b.kernel cpu who).pc (ran cpu (context_of b.kernel cpu who) b.memory b.links)))

accepts-course : (b : BoardState) (cpu : ℕ) (line : Option ℕ) → b.kernel.off ≡ false → deliverable b.kernel cpu ≡ line →
    Course b cpu (accepts_or_executes b cpu line)
accepts-course b cpu None on free = executes-course b cpu (executor_on b.kernel cpu) on free refl
accepts-course b cpu (Some line) on free = Course.accepts line free refl

stopped-course : (b : BoardState) (cpu : ℕ) (line : Option ℕ) (stopped : Bool) (by : Option Executor) → b.kernel.off ≡ false →
    deliverable b.kernel cpu ≡ line → executor_on b.kernel cpu ≡ (if stopped then None else by) →
    Course b cpu (if stopped then reported b report.Stopped else accepts_or_executes b cpu line)
stopped-course b cpu line true by on free same = Course.idle same refl refl
stopped-course b cpu line false by on free same = accepts-course b cpu line on free

stepped-course : (b : BoardState) (cpu : ℕ) (found : Option Processor) → b.kernel.off ≡ false → processor_at b.kernel cpu ≡ found →
    Course b cpu (stepped_in b cpu found)
stepped-course b cpu None on same = Course.idle (ap executor_in same) refl refl
stepped-course b cpu (Some p) on same =
    stopped-course b cpu (deliverable b.kernel cpu) p.stopped (executor_by p.running p.handling) on refl (ap executor_in same)

off-course : (b : BoardState) (cpu : ℕ) (off : Bool) → b.kernel.off ≡ off →
    Course b cpu (if off then reported b report.Off else stepped b cpu)
off-course b cpu true is = Course.off is refl
off-course b cpu false is = stepped-course b cpu (processor_at b.kernel cpu) is refl

pub course : (b : BoardState) (cpu : ℕ) → Course b cpu (happens b (Step cpu))
unfolding happens
course b cpu = off-course b cpu b.kernel.off refl

-- What is so by what it reports.

report-of : (one other : Happened) → one ≡ other → one.report ≡ other.report
report-of one other same = ap (λ (done : Happened). done.report) same

-- an instruction was executed: the board is on, and no interrupt was deliverable
pub record Goes (b : BoardState) (cpu : ℕ) : Type 0 where
  pub on : b.kernel.off ≡ false
  pub uninterrupted : deliverable b.kernel cpu ≡ None

both-kinds : (told : Report) → is_silent told ≡ true → is_executed told ≡ true → ⊥
both-kinds report.NoSuch silent executed = false≢true executed
both-kinds report.Stopped silent executed = false≢true executed
both-kinds report.Idle silent executed = false≢true executed
both-kinds report.Off silent executed = false≢true executed
both-kinds (report.Accepted line) silent executed = false≢true executed
both-kinds (report.Ran address) silent executed = false≢true silent
both-kinds (report.Called address) silent executed = false≢true silent
both-kinds (report.Faulted address) silent executed = false≢true silent
both-kinds report.Ticked silent executed = false≢true executed
both-kinds report.TimeOver silent executed = false≢true executed
both-kinds report.Raised silent executed = false≢true executed

executed-course : (b : BoardState) (cpu : ℕ) (done : Happened) → Course b cpu done → is_executed done.report ≡ true → Goes b cpu
executed-course b cpu done (Course.off is same) told =
    absurd (false≢true (sym (ap is_executed (report-of done (reported b report.Off) same)) ∙ told))
executed-course b cpu done (Course.idle nobody same silent) told = absurd (both-kinds done.report silent told)
executed-course b cpu done (Course.accepts line free is) told = absurd (false≢true (sym (ap is_executed is) ∙ told))
executed-course b cpu done (Course.runs on free executed) told = record { on = on; uninterrupted = free }

pub executed-goes : (b : BoardState) (cpu : ℕ) → is_executed (happens b (Step cpu)).report ≡ true → Goes b cpu
executed-goes b cpu told = executed-course b cpu (happens b (Step cpu)) (course b cpu) told

-- somebody executes: the same, and who
executes-then : (b : BoardState) (cpu : ℕ) (done : Happened) → Course b cpu done → is_silent done.report ≡ true →
    (done.board ≡ b) × (executor_on b.kernel cpu ≡ None)
executes-then b cpu done (Course.off is same) told =
    absurd (false≢true (sym (ap is_silent (report-of done (reported b report.Off) same)) ∙ told))
executes-then b cpu done (Course.idle nobody same silent) told = (same, nobody)
executes-then b cpu done (Course.accepts line free is) told = absurd (false≢true (sym (ap is_silent is) ∙ told))
executes-then b cpu done (Course.runs on free executed) told = absurd (both-kinds done.report told executed)

off-then : (b : BoardState) (cpu : ℕ) (done : Happened) → Course b cpu done → done.report ≡ report.Off →
    (b.kernel.off ≡ true) × (done.board ≡ b)
off-then b cpu done (Course.off is same) told = (is, ap (λ (it : Happened). it.board) same)
off-then b cpu done (Course.idle nobody same silent) told = absurd (false≢true (sym (ap is_silent told) ∙ silent))
off-then b cpu done (Course.accepts line free is) told = let wrong : ⊥ = cc in absurd wrong
off-then b cpu done (Course.runs on free executed) told = absurd (false≢true (sym (ap is_executed told) ∙ executed))

pub off-stays : (b : BoardState) (cpu : ℕ) → (happens b (Step cpu)).report ≡ report.Off →
    (b.kernel.off ≡ true) × ((happens b (Step cpu)).board ≡ b)
off-stays b cpu told = off-then b cpu (happens b (Step cpu)) (course b cpu) told

accepts-then : (b : BoardState) (cpu line : ℕ) (done : Happened) → Course b cpu done → done.report ≡ report.Accepted line →
    deliverable b.kernel cpu ≡ None → ⊥
accepts-then b cpu line done (Course.off is same) told none =
    let wrong : report.Accepted line ≡ report.Off = sym told ∙ report-of done (reported b report.Off) same in
    let false : ⊥ = cc in false
accepts-then b cpu line done (Course.idle nobody same silent) told none = false≢true (sym (ap is_silent told) ∙ silent)
accepts-then b cpu line done (Course.accepts other free is) told none =
    let wrong : Some other ≡ None = sym free ∙ none in
    let false : ⊥ = cc in false
accepts-then b cpu line done (Course.runs on free executed) told none = false≢true (sym (ap is_executed told) ∙ executed)

-- Quiet events.

cpu-in : Event → ℕ → ℕ
cpu-in (Step cpu) other = cpu
cpu-in Tick other = other
cpu-in (Raise line) other = other

pub same-cpu : (cpu other : ℕ) → Step cpu ≡ Step other → cpu ≡ other
unfolding cpu-in
same-cpu cpu other is = ap (λ event. cpu-in event cpu) is

agent-none : (cpu : ℕ) (by : Option Executor) (who : Agent) → by ≡ None → option_map (agent_by cpu) by ≡ Some who → ⊥
agent-none cpu by who none some =
    let wrong : None ≡ Some who = sym (ap (option_map (agent_by cpu)) none) ∙ some in
    let false : ⊥ = cc in false

nobody-quiet : (b : BoardState) (cpu : ℕ) → executor_on b.kernel cpu ≡ None → IsQuiet b (Step cpu)
nobody-quiet b cpu none who by =
    agent-none cpu (executor_on b.kernel cpu) who none
    (subst (λ n. agent_on b.kernel n ≡ Some who) (sym (same-cpu cpu by.cpu by.steps)) by.executes)

pub silent-idle : (b : BoardState) (cpu : ℕ) → is_silent (happens b (Step cpu)).report ≡ true → IsIdle b cpu
silent-idle b cpu told =
    let both = executes-then b cpu (happens b (Step cpu)) (course b cpu) told in
    record { same = both.0; quiet = nobody-quiet b cpu both.1 }

pub accepted-quiet : (b : BoardState) (cpu line : ℕ) → (happens b (Step cpu)).report ≡ report.Accepted line → IsQuiet b (Step cpu)
accepted-quiet b cpu line told who by =
    accepts-then b cpu line (happens b (Step cpu)) (course b cpu) told
    (subst (λ n. deliverable b.kernel n ≡ None) (sym (same-cpu cpu by.cpu by.steps)) by.uninterrupted)

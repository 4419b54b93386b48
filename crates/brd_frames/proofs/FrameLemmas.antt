-- An event does the same where the contexts of agents that it is apart from are other ones.
use Rattle.std.proofs.Common.{◌≡◌, ℕ, Bool, true, false, List, [], ◌∷◌, refl, sym, ap, subst, ◌∙◌}
use Rattle.std.specs.Prelude.{if◌then◌else◌, not, ◌||◌, nat_lt, slice_set, Option, None, Some, is_ok, Ok}
use Rattle.std.specs.Option.{option_map}
use Rattle.std.proofs.lemmas.Bool.{true≢false, false≢true}
use Rattle.std.proofs.lemmas.List.{get_or-set_other, set_comm}
use Rattle.brd_exec.specs.State.{State}
use Rattle.brd_exec.specs.Step.{Ran, ran}
use Rattle.brd_exec.specs.declared.outcome.Outcome.{Outcome}
use Rattle.brd_exec.specs.declared.outcome.Outcome.TheVariants.{Done, Syscall, Exception}
use Rattle.brd_link.specs.LinkSet.{without, without_all}
use Rattle.brd_tasks.specs.declared.task.Task.{Task}
use Rattle.brd_tasks.specs.Tasks.{task_at, no_context}
use Rattle.brd_time.specs.Time.{last_count, advanced}
use Rattle.brd_kernel.specs.declared.processor.Processor.{Processor}
use Rattle.brd_kernel.specs.declared.processor.Executor.{Executor}
use Rattle.brd_kernel.specs.declared.processor.Executor.TheVariants as executor
use Rattle.brd_kernel.specs.declared.call.Call.{Call}
use Rattle.brd_kernel.specs.Kernel.{KernelState, processor_at, executor_on, context_of, with_context_of, context_on, deliverable, handles, accepted_line, entry_of, line_at, can_be_raised, with_pending, accepts}
use Rattle.brd_kernel.specs.Waits.{ticked_on}
use Rattle.brd_kernel.specs.Dispatch.{changed_processors}
use Rattle.brd_kernel.specs.Services.{caller_on, serve_by}
use Rattle.brd_sysgate.specs.Gate.{caller_of, read_of}
use Rattle.brd_board.specs.Executing.{executed_by, executed_in}
use Rattle.brd_board.specs.declared.event.Event.{Event}
use Rattle.brd_board.specs.declared.event.Event.TheVariants.{Step, Tick, Raise}
use Rattle.brd_board.specs.declared.event.Report.{Report}
use Rattle.brd_board.specs.declared.event.Report.TheVariants as report
use Rattle.brd_board.specs.Board.{BoardState, Happened, reported, then_dispatched, with_executed, with_call, with_fault, instruction_done, executes_in, accepts_or_executes, stepped_in, happens_on, happens, after}
use Rattle.brd_frames.specs.Steady.{is_waiting_task}
use Rattle.brd_frames.specs.Agents as agents
use Rattle.brd_frames.specs.Agents.{Agent, agent_by, with_agent, happened_with}
use Rattle.brd_frames.specs.Apart.{is_handling, is_steady, starts, Starts, Executes, IsApart, AreApart}
use Rattle.brd_frames.proofs.TableLemmas.{Contexts, At, Unsteady}
use Rattle.brd_frames.proofs.KernelLemmas.{k-with, ticked-with, fault-with, dispatched-with}
use Rattle.brd_frames.proofs.ServiceLemmas.{AtExecutor}
use Rattle.brd_frames.proofs.CallLemmas.{CallFrees, context-with, put-with, put-same, put-unsteady, called-with}
use Rattle.brd_frames.proofs.StepLemmas.{left_by, step-calls, syscall-keeps, deliverable-accepts}

-- the board, and what has happened, with other contexts
abbrev b-with : Contexts → Contexts → BoardState → BoardState
b-with f g b = record b { kernel = k-with f g b.kernel }

abbrev h-with : Contexts → Contexts → Happened → Happened
h-with f g done = record done { board = b-with f g done.board }

dispatched-board-with : (f g : Contexts) (b : BoardState) (told : Report) → then_dispatched (b-with f g b) told ≡ h-with f g (then_dispatched b told)
dispatched-board-with f g b told =
    ap (λ new. record {
      board = record b { kernel = new; links = without_all b.links (changed_processors (k-with f g b.kernel) new) };
      report = told;
    }) (dispatched-with f g b.kernel)

-- Instructions.

done-with : (f g : Contexts) (b : BoardState) (cpu address : ℕ) (outcome : Outcome) → Unsteady f b.kernel.tasks →
    (outcome ≡ Syscall → CallFrees f g b.kernel cpu) →
    instruction_done (b-with f g b) cpu address outcome ≡ h-with f g (instruction_done b cpu address outcome)
done-with f g b cpu address Done steady free = refl
done-with f g b cpu address Syscall steady free =
    ap (λ k. then_dispatched (record b { kernel = k; links = without b.links cpu }) (report.Called address)) (called-with f g b.kernel cpu (free refl))
    ∙ dispatched-board-with f g (with_call b cpu) (report.Called address)
done-with f g b cpu address (Exception code epc bd) steady free =
    ap (λ k. then_dispatched (record b { kernel = k; faults = slice_set b.faults cpu (Some (record { code = code; epc = epc; bd = bd })) })
    (report.Faulted address)) (fault-with f g b.kernel cpu steady)
    ∙ dispatched-board-with f g (with_fault b cpu (record { code = code; epc = epc; bd = bd })) (report.Faulted address)

-- what has to be left alone over a step: tasks that wait, the handler of a processor that accepts an interrupt, who
-- executes, and whom its call starts
record StepFrees (f g : Contexts) (b : BoardState) (cpu : ℕ) : Type 0 where
  unsteady : Unsteady f b.kernel.tasks
  accepting : accepts (processor_at b.kernel cpu) ≡ true → At g cpu
  executes : deliverable b.kernel cpu ≡ None → AtExecutor f g cpu (executor_on b.kernel cpu)
  starts : (who : Executor) (c : Call) (id : ℕ) (task : Task) → executor_on b.kernel cpu ≡ Some who → deliverable b.kernel cpu ≡ None →
      (left_by b cpu who).outcome ≡ Syscall → read_of (context_of b.kernel cpu who) (caller_of b.kernel cpu) ≡ Ok c →
      task_at b.kernel.tasks id ≡ Some task → starts c (caller_on b.kernel cpu) id task ≡ true →
      is_ok (serve_by b.kernel cpu (caller_on b.kernel cpu) c) ≡ true → At f id

context-is : (k : KernelState) (cpu : ℕ) (who : Executor) (s : State) → executor_on k cpu ≡ Some who → context_on k cpu ≡ Some s →
    s ≡ context_of k cpu who
context-is k cpu who s on is =
    let both : Some (context_of k cpu who) ≡ Some s = sym (ap (option_map (context_of k cpu)) on) ∙ is in
    cc

call-frees : (f g : Contexts) (b : BoardState) (cpu : ℕ) (who : Executor) → StepFrees f g b cpu → executor_on b.kernel cpu ≡ Some who →
    deliverable b.kernel cpu ≡ None → (left_by b cpu who).outcome ≡ Syscall → CallFrees f g b.kernel cpu
call-frees f g b cpu who free on none calls = record {
  unsteady = free.unsteady;
  executes = free.executes none;
  starts = λ s c id task there asks.
      free.starts who c id task on none calls
      (subst (λ x. read_of x (caller_of b.kernel cpu) ≡ Ok c) (context-is b.kernel cpu who s on there) asks);
}

executed-with : (f g : Contexts) (b : BoardState) (cpu : ℕ) (who : Executor) → StepFrees f g b cpu → executor_on b.kernel cpu ≡ Some who →
    deliverable b.kernel cpu ≡ None →
    executes_in (b-with f g b) cpu (executed_in (k-with f g b.kernel) cpu b.memory b.links (Some who))
    ≡ h-with f g (executes_in b cpu (executed_in b.kernel cpu b.memory b.links (Some who)))
executed-with f g b cpu who free on none =
    let k : KernelState = b.kernel in
    let s : State = context_of k cpu who in
    let left : Ran = left_by b cpu who in
    let at : AtExecutor f g cpu (Some who) = subst (λ x. AtExecutor f g cpu x) on (free.executes none) in
    let new : KernelState = with_context_of k cpu who left.state in
    ap (λ c. executes_in (b-with f g b) cpu (Some (executed_by (k-with f g k) cpu who c.pc (ran cpu c b.memory b.links)))) (context-with f g k cpu who at)
    ∙ ap (λ now. instruction_done (record b { kernel = now; memory = left.memory; links = left.links }) cpu s.pc left.outcome)
    (put-with f g k cpu who left.state at)
    ∙ done-with f g (with_executed b (executed_by k cpu who s.pc left)) cpu s.pc left.outcome
    (put-unsteady f k cpu who left.state free.unsteady)
    (λ calls. subst (λ now. CallFrees f g now cpu)
    (sym (ap (with_context_of k cpu who) (syscall-keeps b cpu who calls) ∙ put-same k cpu who))
    (call-frees f g b cpu who free on none calls))

executes-with : (f g : Contexts) (b : BoardState) (cpu : ℕ) (by : Option Executor) → StepFrees f g b cpu → executor_on b.kernel cpu ≡ by →
    deliverable b.kernel cpu ≡ None →
    executes_in (b-with f g b) cpu (executed_in (k-with f g b.kernel) cpu b.memory b.links by)
    ≡ h-with f g (executes_in b cpu (executed_in b.kernel cpu b.memory b.links by))
executes-with f g b cpu None free on none = refl
executes-with f g b cpu (Some who) free on none = executed-with f g b cpu who free on none

-- Interrupts.

handles-with : (f g : Contexts) (k : KernelState) (cpu line : ℕ) (found : Option Processor) → At g cpu →
    handles (k-with f g k) cpu line found ≡ k-with f g (handles k cpu line found)
handles-with f g k cpu line None at = refl
handles-with f g k cpu line (Some p) at =
    ap (λ contexts. record (k-with f g (handles k cpu line (Some p))) { handler_contexts = contexts })
    (sym (at.writes k.handler_contexts (entry_of line (line_at k line).handler)))

accepts-with : (f g : Contexts) (b : BoardState) (cpu : ℕ) (line : Option ℕ) → StepFrees f g b cpu → deliverable b.kernel cpu ≡ line →
    accepts_or_executes (b-with f g b) cpu line ≡ h-with f g (accepts_or_executes b cpu line)
accepts-with f g b cpu None free is = executes-with f g b cpu (executor_on b.kernel cpu) free refl is
accepts-with f g b cpu (Some line) free is =
    ap (λ k. then_dispatched (record b { kernel = k; links = without b.links cpu }) (report.Accepted line))
    (handles-with f g b.kernel cpu line (processor_at b.kernel cpu) (free.accepting (deliverable-accepts b.kernel cpu line is)))
    ∙ dispatched-board-with f g (record b { kernel = accepted_line b.kernel cpu line; links = without b.links cpu }) (report.Accepted line)

-- Events.

stopped-with : (f g : Contexts) (b : BoardState) (one other : Happened) (stopped : Bool) → one ≡ h-with f g other →
    (if stopped then reported (b-with f g b) report.Stopped else one) ≡ h-with f g (if stopped then reported b report.Stopped else other)
stopped-with f g b one other true is = refl
stopped-with f g b one other false is = is

stepped-with : (f g : Contexts) (b : BoardState) (cpu : ℕ) (found : Option Processor) → StepFrees f g b cpu →
    stepped_in (b-with f g b) cpu found ≡ h-with f g (stepped_in b cpu found)
stepped-with f g b cpu None free = refl
stepped-with f g b cpu (Some p) free =
    stopped-with f g b (accepts_or_executes (b-with f g b) cpu (deliverable b.kernel cpu)) (accepts_or_executes b cpu (deliverable b.kernel cpu))
    p.stopped (accepts-with f g b cpu (deliverable b.kernel cpu) free refl)

tick-with : (f g : Contexts) (b : BoardState) (more : Bool) → Unsteady f b.kernel.tasks →
    (if more then then_dispatched (record (b-with f g b) { kernel = ticked_on (k-with f g b.kernel) (advanced b.kernel.time) }) report.Ticked
    else reported (b-with f g b) report.TimeOver)
    ≡ h-with f g (if more then then_dispatched (record b { kernel = ticked_on b.kernel (advanced b.kernel.time) }) report.Ticked
    else reported b report.TimeOver)
tick-with f g b true free =
    ap (λ k. then_dispatched (record b { kernel = k }) report.Ticked) (ticked-with f g b.kernel (advanced b.kernel.time) free)
    ∙ dispatched-board-with f g (record b { kernel = ticked_on b.kernel (advanced b.kernel.time) }) report.Ticked
tick-with f g b false free = refl

raise-with : (f g : Contexts) (b : BoardState) (line : ℕ) (handled : Bool) →
    (if handled then reported (record (b-with f g b) { kernel = with_pending (k-with f g b.kernel) line }) report.Raised
    else reported (b-with f g b) report.NoSuch)
    ≡ h-with f g (if handled then reported (record b { kernel = with_pending b.kernel line }) report.Raised else reported b report.NoSuch)
raise-with f g b line true = refl
raise-with f g b line false = refl

-- what has to be left alone over an event of a board that is on
abbrev EventFrees : Contexts → Contexts → BoardState → Event → Type 0
EventFrees f g b (Step cpu) = StepFrees f g b cpu
EventFrees f g b Tick = Unsteady f b.kernel.tasks
EventFrees f g b (Raise line) = Unit {0}

on-with : (f g : Contexts) (b : BoardState) (event : Event) → EventFrees f g b event →
    happens_on (b-with f g b) event ≡ h-with f g (happens_on b event)
on-with f g b (Step cpu) free = stepped-with f g b cpu (processor_at b.kernel cpu) free
on-with f g b Tick free = tick-with f g b (nat_lt b.kernel.time.count last_count) free
on-with f g b (Raise line) free = raise-with f g b line (can_be_raised b.kernel line)

off-with : (f g : Contexts) (b : BoardState) (event : Event) (off : Bool) → (off ≡ false → EventFrees f g b event) →
    (if off then reported (b-with f g b) report.Off else happens_on (b-with f g b) event)
    ≡ h-with f g (if off then reported b report.Off else happens_on b event)
off-with f g b event true free = refl
off-with f g b event false free = on-with f g b event (free refl)

happens-with : (f g : Contexts) (b : BoardState) (event : Event) → (b.kernel.off ≡ false → EventFrees f g b event) →
    happens (b-with f g b) event ≡ h-with f g (happens b event)
unfolding happens
happens-with f g b event free = off-with f g b event b.kernel.off free

-- The context of one agent.

pub at-other : (at id : ℕ) (s : State) → (id ≡ at → ⊥) → At (λ xs. slice_set xs at s) id
at-other at id s apart = record {
  reads = λ xs. get_or-set_other xs at id s no_context apart;
  writes = λ xs other. set_comm xs id at other s apart;
}

at-all : (id : ℕ) → At (λ xs. xs) id
at-all id = record { reads = λ xs. refl; writes = λ xs s. refl }

-- an agent that executes is apart from another
pub task-at : (at cpu : ℕ) (s : State) (by : Option Executor) → (by ≡ Some (executor.Task at) → ⊥) →
    AtExecutor (λ xs. slice_set xs at s) (λ xs. xs) cpu by
task-at at cpu s None apart = tt
task-at at cpu s (Some executor.Handler) apart = at-all cpu
task-at at cpu s (Some (executor.Task id)) apart = at-other at id s (λ same. apart (ap (λ x. Some (executor.Task x)) same))

handler-at : (at cpu : ℕ) (s : State) (by : Option Executor) → (by ≡ Some executor.Handler → cpu ≡ at → ⊥) →
    AtExecutor (λ xs. xs) (λ xs. slice_set xs at s) cpu by
handler-at at cpu s None apart = tt
handler-at at cpu s (Some executor.Handler) apart = at-other at cpu s (apart refl)
handler-at at cpu s (Some (executor.Task id)) apart = at-all id

starts-so : (b : BoardState) (cpu at : ℕ) (who : Executor) (c : Call) (task : Task) → b.kernel.off ≡ false →
    executor_on b.kernel cpu ≡ Some who → deliverable b.kernel cpu ≡ None → (left_by b cpu who).outcome ≡ Syscall →
    read_of (context_of b.kernel cpu who) (caller_of b.kernel cpu) ≡ Ok c → task_at b.kernel.tasks at ≡ Some task →
    starts c (caller_on b.kernel cpu) at task ≡ true → is_ok (serve_by b.kernel cpu (caller_on b.kernel cpu) c) ≡ true →
    Starts b (Step cpu) (agents.Task at)
starts-so b cpu at who c task off on none calls asks there is serves = record {
  id = at;
  cpu = cpu;
  call = c;
  task = task;
  is = refl;
  steps = refl;
  calls = record {
    context = context_of b.kernel cpu who;
    address = (context_of b.kernel cpu who).pc;
    executes = ap (option_map (context_of b.kernel cpu)) on;
    steps = step-calls b cpu who off on none calls;
    asks = asks;
  };
  there = there;
  starts = is;
  serves = serves;
}

unsteady-apart : (k : KernelState) (at : ℕ) (s : State) → is_steady k (agents.Task at) ≡ true → Unsteady (λ xs. slice_set xs at s) k.tasks
unsteady-apart k at s steady id is =
    at-other at id s (λ same. true≢false (sym steady ∙ ap not (sym (ap (λ x. is_waiting_task (task_at k.tasks x)) same) ∙ is)))

started-apart : (b : BoardState) (cpu at : ℕ) (s : State) (who : Executor) (c : Call) (id : ℕ) (task : Task) →
    (Starts b (Step cpu) (agents.Task at) → ⊥) → b.kernel.off ≡ false → executor_on b.kernel cpu ≡ Some who →
    deliverable b.kernel cpu ≡ None → (left_by b cpu who).outcome ≡ Syscall →
    read_of (context_of b.kernel cpu who) (caller_of b.kernel cpu) ≡ Ok c → task_at b.kernel.tasks id ≡ Some task →
    starts c (caller_on b.kernel cpu) id task ≡ true → is_ok (serve_by b.kernel cpu (caller_on b.kernel cpu) c) ≡ true →
    At (λ xs. slice_set xs at s) id
started-apart b cpu at s who c id task never off on none calls asks there is serves =
    at-other at id s (λ same.
    never (starts-so b cpu at who c task off on none calls asks
    (subst (λ x. task_at b.kernel.tasks x ≡ Some task) same there)
    (subst (λ x. starts c (caller_on b.kernel cpu) x task ≡ true) same is) serves))

-- who executes an instruction does so in the event
executes-so : (b : BoardState) (cpu : ℕ) (by : Executor) (who : Agent) → executor_on b.kernel cpu ≡ Some by → deliverable b.kernel cpu ≡ None →
    agent_by cpu by ≡ who → Executes b (Step cpu) who
executes-so b cpu by who on none is = record {
  cpu = cpu;
  steps = refl;
  executes = ap (option_map (agent_by cpu)) on ∙ ap Some is;
  uninterrupted = none;
}

task-frees : (b : BoardState) (event : Event) (at : ℕ) (s : State) → IsApart b event (agents.Task at) → b.kernel.off ≡ false →
    EventFrees (λ xs. slice_set xs at s) (λ xs. xs) b event
task-frees b (Step cpu) at s apart off = record {
  unsteady = unsteady-apart b.kernel at s apart.steady;
  accepting = λ accepts. at-all cpu;
  executes = λ none. task-at at cpu s (executor_on b.kernel cpu)
      (λ on. apart.elsewhere (executes-so b cpu (executor.Task at) (agents.Task at) on none refl));
  starts = λ who c id task. started-apart b cpu at s who c id task apart.lasting off;
}
task-frees b Tick at s apart off = unsteady-apart b.kernel at s apart.steady
task-frees b (Raise line) at s apart off = tt

pub handling-accepts : (found : Option Processor) → is_handling found ≡ true → accepts found ≡ true → ⊥
handling-accepts None works accepting = false≢true works
handling-accepts (Some p) works accepting =
    true≢false (sym accepting ∙ ap (λ test. not (test || p.locked || p.stopped)) works)

handler-steady : (k : KernelState) (at cpu : ℕ) → is_steady k (agents.Handler at) ≡ true → accepts (processor_at k cpu) ≡ true → cpu ≡ at → ⊥
handler-steady k at cpu steady is same =
    handling-accepts (processor_at k at) steady (sym (ap (λ x. accepts (processor_at k x)) same) ∙ is)

handler-frees : (b : BoardState) (event : Event) (at : ℕ) (s : State) → IsApart b event (agents.Handler at) → b.kernel.off ≡ false →
    EventFrees (λ xs. xs) (λ xs. slice_set xs at s) b event
handler-frees b (Step cpu) at s apart off = record {
  unsteady = λ id is. at-all id;
  accepting = λ accepts. at-other at cpu s (handler-steady b.kernel at cpu apart.steady accepts);
  executes = λ none. handler-at at cpu s (executor_on b.kernel cpu)
      (λ on same. apart.elsewhere (executes-so b cpu executor.Handler (agents.Handler at) on none (ap agents.Handler same)));
  starts = λ who c id task on none calls asks there is serves. at-all id;
}
handler-frees b Tick at s apart off = λ id is. at-all id
handler-frees b (Raise line) at s apart off = tt

-- The laws.

pub frame : (b : BoardState) (event : Event) (who : Agent) (s : State) → IsApart b event who →
    happens (with_agent b who s) event ≡ happened_with (happens b event) who s
frame b event (agents.Task at) s apart = happens-with (λ xs. slice_set xs at s) (λ xs. xs) b event (task-frees b event at s apart)
frame b event (agents.Handler at) s apart = happens-with (λ xs. xs) (λ xs. slice_set xs at s) b event (handler-frees b event at s apart)

pub frames : (b : BoardState) (events : List Event) (who : Agent) (s : State) → AreApart b events who →
    after (with_agent b who s) events ≡ with_agent (after b events) who s
frames b [] who s apart = refl
frames b (event ∷ events) who s apart =
    ap (λ (done : Happened). after done.board events) (frame b event who s apart.0)
    ∙ frames (happens b event).board events who s apart.1

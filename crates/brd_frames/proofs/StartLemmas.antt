-- An event that starts a task does the same whatever the task's context was.
use Rattle.std.proofs.Common.{◌≡◌, ℕ, Bool, true, false, refl, sym, ap, subst, ◌∙◌, inl, inr}
use Rattle.std.specs.Prelude.{zero, suc, if◌then◌else◌, ◌==◌, slice_set, Option, None, Some, is_some, is_ok, Result, Ok, Err}
use Rattle.std.specs.Option.{option_map}
use Rattle.std.proofs.lemmas.Bool.{false≢true, and_parts, eqb-true, cases_eq}
use Rattle.std.proofs.lemmas.List.{set-set}
use Rattle.brd_exec.specs.State.{State, advanced}
use Rattle.brd_exec.specs.Step.{Ran, ran}
use Rattle.brd_exec.specs.declared.outcome.Outcome.{Outcome}
use Rattle.brd_exec.specs.declared.outcome.Outcome.TheVariants.{Done, Syscall, Exception}
use Rattle.brd_link.specs.LinkSet.{without}
use Rattle.brd_tasks.specs.declared.task.Task.{Task}
use Rattle.brd_tasks.specs.declared.task.Request.{Request}
use Rattle.brd_tasks.specs.declared.task.Request.TheVariants.{Assigned, On}
use Rattle.brd_tasks.specs.declared.status.Status.{Status}
use Rattle.brd_tasks.specs.Status.{is_dormant, released}
use Rattle.brd_tasks.specs.Tasks.{TaskTable, task_at, opening_of, started, processor_of, placed, patched, where_there, starts as started_on, activated, ended_by, ended, context_at, answered, released_to, released_with}
use Rattle.brd_time.specs.Time.{with_due}
use Rattle.brd_kernel.specs.declared.processor.Processor.{Processor}
use Rattle.brd_kernel.specs.declared.processor.Executor.{Executor}
use Rattle.brd_kernel.specs.declared.processor.Executor.TheVariants as executor
use Rattle.brd_kernel.specs.declared.call.Call.{Call}
use Rattle.brd_kernel.specs.declared.call.Call.TheVariants as call
use Rattle.brd_kernel.specs.declared.call.Ercd.{Ercd}
use Rattle.brd_kernel.specs.declared.call.Ercd.TheVariants.{Id, Par, Iluse, Obj, Qovr}
use Rattle.brd_kernel.specs.Kernel.{KernelState, processor_at, executor_on, context_of, with_context_of, context_on, deliverable}
use Rattle.brd_objects.specs.Mutexes.{given, next_owner_in}
use Rattle.brd_objects.specs.Table.{object_at, object_changed}
use Rattle.brd_kernel.specs.Answer.{e_ok}
use Rattle.brd_kernel.specs.Waits.{unlisted, ended_in, with_released, has_mutex_in, given_in, given_by_in, given_below, all_given_in, quits_in}
use Rattle.brd_kernel.specs.Row.{Row, Served, refused, served_object, served, ok, or_refused}
use Rattle.brd_kernel.specs.Services.{is_held_elsewhere, is_no_processor, named, act_tsk, mact_tsk, ter_tsk, caller_on, serve_by, with_priorities, serve_of, comes_again}
use Rattle.brd_sysgate.specs.Gate.{read_of, caller_of, served_call, changed_in, with_changed_context, replied, called_for, called_in, called}
use Rattle.brd_board.specs.Executing.{executed_by, executed_in}
use Rattle.brd_board.specs.declared.event.Event.{Event}
use Rattle.brd_board.specs.declared.event.Event.TheVariants.{Step}
use Rattle.brd_board.specs.declared.event.Report.TheVariants as report
use Rattle.brd_board.specs.Board.{BoardState, reported, then_dispatched, with_executed, instruction_done, executes_in, accepts_or_executes, stepped_in, stepped, happens}
use Rattle.brd_frames.specs.Agents as agents
use Rattle.brd_frames.specs.Agents.{Agent, agent_by, with_agent}
use Rattle.brd_frames.specs.Apart.{starts, Starts, Executes}
use Rattle.brd_frames.proofs.TableLemmas.{Contexts, t-with, released-at-with, queued_in}
use Rattle.brd_frames.proofs.KernelLemmas.{k-with, unlisted-with, all-given-queued}
use Rattle.brd_frames.proofs.ServiceLemmas.{AtExecutor, Passed}
use Rattle.brd_frames.proofs.CallLemmas.{context-with, put-same, changed-with, starts-put}
use Rattle.brd_frames.proofs.StepLemmas.{left_by, step-is, syscall-keeps}
use Rattle.brd_frames.proofs.FrameLemmas.{task-at, at-other}

-- another context at an ID
abbrev other : ℕ → State → Contexts
other at s xs = slice_set xs at s

-- Tables.

started-same : (t : TaskTable) (at cpu : ℕ) (task : Task) (s : State) → started_on (t-with (other at s) t) at cpu task ≡ started_on t at cpu task
started-same t at cpu task s =
    ap (λ contexts. record (placed t at (started cpu task)) { contexts = contexts }) (set-set t.contexts at s (opening_of task.setup))

abbrev activated_by : TaskTable → ℕ → Request → Task → TaskTable
activated_by t id request task =
    if is_dormant task.status then started_on t id (processor_of request task) task
    else patched t id (record task { activation = Some request })

activated-if : (t : TaskTable) (at : ℕ) (request : Request) (task : Task) (s : State) (dormant : Bool) → dormant ≡ true →
    (if dormant then started_on (t-with (other at s) t) at (processor_of request task) task
    else patched (t-with (other at s) t) at (record task { activation = Some request }))
    ≡ (if dormant then started_on t at (processor_of request task) task else patched t at (record task { activation = Some request }))
activated-if t at request task s true is = started-same t at (processor_of request task) task s
activated-if t at request task s false is = absurd (false≢true is)

activated-row : (t : TaskTable) (at : ℕ) (request : Request) (task : Task) (s : State) (row : Option Task) → row ≡ Some task →
    is_dormant task.status ≡ true →
    where_there (t-with (other at s) t) row (activated_by (t-with (other at s) t) at request) ≡ where_there t row (activated_by t at request)
activated-row t at request task s None there dormant = let wrong : ⊥ = cc in absurd wrong
activated-row t at request task s (Some found) there dormant =
    let same : found ≡ task = cc in
    activated-if t at request found s (is_dormant found.status) (ap (λ (x : Task). is_dormant x.status) same ∙ dormant)

activated-same : (t : TaskTable) (id at : ℕ) (request : Request) (task : Task) (s : State) → id ≡ at → task_at t at ≡ Some task →
    is_dormant task.status ≡ true → activated (t-with (other at s) t) id request ≡ activated t id request
activated-same t id at request task s same there dormant =
    subst (λ n. activated (t-with (other at s) t) n request ≡ activated t n request) (sym same)
    (activated-row t at request task s (task_at t at) there dormant)

ended-by-same : (t : TaskTable) (at : ℕ) (task : Task) (s : State) (queued : Option Request) → is_some queued ≡ true →
    ended_by (t-with (other at s) t) at task queued ≡ ended_by t at task queued
ended-by-same t at task s None is = absurd (false≢true is)
ended-by-same t at task s (Some request) is = started-same t at (processor_of request task) task s

ended-row : (t : TaskTable) (at : ℕ) (s : State) (row : Option Task) → is_some (queued_in row) ≡ true →
    where_there (t-with (other at s) t) row (λ task. ended_by (t-with (other at s) t) at task task.activation)
    ≡ where_there t row (λ task. ended_by t at task task.activation)
ended-row t at s None queued = absurd (false≢true queued)
ended-row t at s (Some found) queued = ended-by-same t at found s found.activation queued

ended-same : (t : TaskTable) (id at : ℕ) (s : State) → id ≡ at → is_some (queued_in (task_at t at)) ≡ true →
    ended (t-with (other at s) t) id ≡ ended t id
ended-same t id at s same queued =
    subst (λ n. ended (t-with (other at s) t) n ≡ ended t n) (sym same) (ended-row t at s (task_at t at) queued)

-- a table that is another one but for a context at an ID
record TableBut (at : ℕ) (new old : TaskTable) : Type 0 where
  context : State
  is : new ≡ t-with (other at context) old

to-but : (t : TaskTable) (at answer : ℕ) (second : Option ℕ) (s : State) (task : Task) (to : Option Status) →
    TableBut at (released_to (t-with (other at s) t) at answer second task to) (released_to t at answer second task to)
to-but t at answer second s task None = record { context = s; is = refl }
to-but t at answer second s task (Some to) =
    let next : State = answered (context_at (t-with (other at s) t) at) answer second in
    record {
      context = next;
      is = ap (λ contexts. record (placed t at (record task { status = to })) { contexts = contexts })
          (set-set t.contexts at s next ∙ sym (set-set t.contexts at (answered (context_at t at) answer second) next));
    }

row-but : (t : TaskTable) (at answer : ℕ) (second : Option ℕ) (s : State) (row : Option Task) →
    TableBut at (where_there (t-with (other at s) t) row (λ task. released_to (t-with (other at s) t) at answer second task (released task.status)))
    (where_there t row (λ task. released_to t at answer second task (released task.status)))
row-but t at answer second s None = record { context = s; is = refl }
row-but t at answer second s (Some task) = to-but t at answer second s task (released task.status)

released-but : (t : TaskTable) (id at answer : ℕ) (second : Option ℕ) (s : State) →
    TableBut at (released_with (t-with (other at s) t) id answer second) (released_with t id answer second)
released-but t id at answer second s = elim (cases_eq id at) [
  | inl same ↦ subst (λ n. TableBut at (released_with (t-with (other at s) t) n answer second) (released_with t n answer second)) (sym same)
      (row-but t at answer second s (task_at t at))
  | inr apart ↦ record { context = s; is = released-at-with (other at s) t id answer second (at-other at id s apart) }
]

-- Calls.

same-refused : (test : Bool) (code : Ercd) (one two : Result Served Ercd) → (test ≡ false → two ≡ one) → refused test code two ≡ refused test code one
same-refused true code one two same = refl
same-refused false code one two same = same refl

same-object : {X : Type 0} (it : Row X) (does : X → Result Served Ercd) (found : Option X) → it.object ≡ found → it.bad_id ≡ false →
    it.bad_par ≡ false → ((x : X) → Passed it x → does x ≡ it.does x) →
    served_object (record it { does = does }) found ≡ served_object it found
same-object it does None is id par same = refl
same-object it does (Some x) is id par same =
    same-refused (it.iluse x) Iluse _ _
    (λ iluse. same-refused (it.obj x) Obj _ _
    (λ obj. same-refused (it.qovr x) Qovr _ _
    (λ qovr. same x (record { id = id; par = par; there = is; iluse = iluse; obj = obj; qovr = qovr }))))

same-row : {X : Type 0} (it : Row X) (does : X → Result Served Ercd) → ((x : X) → Passed it x → does x ≡ it.does x) →
    served (record it { does = does }) ≡ served it
same-row it does same =
    same-refused it.bad_id Id _ _ (λ id. same-refused it.bad_par Par _ _ (λ par. same-object it does it.object refl id par same))

ended-in-same : (k : KernelState) (id at : ℕ) (s : State) → id ≡ at → is_some (queued_in (task_at k.tasks at)) ≡ true →
    ended_in (k-with (other at s) (λ xs. xs) k) id ≡ ended_in k id
ended-in-same k id at s same queued =
    ap (λ (out : KernelState). record out { tasks = ended (t-with (other at s) k.tasks) id; time = with_due k.time id None })
    (unlisted-with (other at s) (λ xs. xs) k id)
    ∙ ap (λ t. record (unlisted k id) { tasks = t; time = with_due k.time id None }) (ended-same k.tasks id at s same queued)

-- a kernel that is another one but for a context of a task
record But (at : ℕ) (new old : KernelState) : Type 0 where
  context : State
  is : new ≡ k-with (other at context) (λ xs. xs) old

released-if-but : (k : KernelState) (at : ℕ) (s : State) (id : Option ℕ) →
    But at (with_released (k-with (other at s) (λ xs. xs) k) id) (with_released k id)
released-if-but k at s None = record { context = s; is = refl }
released-if-but k at s (Some id) =
    let but : TableBut at (released_with (t-with (other at s) k.tasks) id e_ok None) (released_with k.tasks id e_ok None) =
    released-but k.tasks id at e_ok None s in
    record {
      context = but.context;
      is = ap (λ t. record (k-with (other at s) (λ xs. xs) k) { tasks = t; time = with_due k.time id None }) but.is;
    }

given-if-but : (k : KernelState) (at mutex : ℕ) (s : State) (has : Bool) →
    But at (if has then given_in (k-with (other at s) (λ xs. xs) k) mutex else k-with (other at s) (λ xs. xs) k)
    (if has then given_in k mutex else k)
given-if-but k at mutex s true =
    released-if-but (record k { mutexes = object_changed given k.mutexes mutex }) at s (next_owner_in (object_at k.mutexes mutex))
given-if-but k at mutex s false = record { context = s; is = refl }

given-below-but : (k : KernelState) (id at : ℕ) (s : State) (n : ℕ) →
    But at (given_below (k-with (other at s) (λ xs. xs) k) id n) (given_below k id n)
unfolding given_below
given-below-but k id at s zero = record { context = s; is = refl }
given-below-but k id at s (suc n) =
    let before : KernelState = given_below k id n in
    let first : But at (given_below (k-with (other at s) (λ xs. xs) k) id n) before = given-below-but k id at s n in
    let more : But at (given_by_in (k-with (other at first.context) (λ xs. xs) before) id n) (given_by_in before id n) =
    given-if-but before at n first.context (has_mutex_in id (object_at before.mutexes n)) in
    record { context = more.context; is = ap (λ now. given_by_in now id n) first.is ∙ more.is }

all-given-but : (k : KernelState) (id at : ℕ) (s : State) (standard : Bool) →
    But at (if standard then given_below (k-with (other at s) (λ xs. xs) k) id 256 else k-with (other at s) (λ xs. xs) k)
    (if standard then given_below k id 256 else k)
all-given-but k id at s true = given-below-but k id at s 256
all-given-but k id at s false = record { context = s; is = refl }

quits-in-same : (k : KernelState) (id at : ℕ) (task : Task) (s : State) → id ≡ at → task_at k.tasks at ≡ Some task →
    is_some task.activation ≡ true → quits_in (k-with (other at s) (λ xs. xs) k) id ≡ quits_in k id
quits-in-same k id at task s same there queued =
    let but : But at (all_given_in (k-with (other at s) (λ xs. xs) k) id) (all_given_in k id) = all-given-but k id at s k.standard in
    ap (λ now. ended_in now id) but.is
    ∙ ended-in-same (all_given_in k id) id at but.context same
    (ap is_some (all-given-queued k id at ∙ ap queued_in there) ∙ queued)

serve-same : (k : KernelState) (cpu by at : ℕ) (c : Call) (task : Task) (s : State) → starts c by at task ≡ true → task_at k.tasks at ≡ Some task →
    serve_by (k-with (other at s) (λ xs. xs) k) cpu by c ≡ serve_by k cpu by c
unfolding is_held_elsewhere is_no_processor
serve-same k cpu by at (call.ActTsk t) task s is there =
    let both = and_parts (named by t == at) (is_dormant task.status) is in
    same-row (act_tsk k (named by t)) _ (λ found passed.
    ap (λ left. ok (record k { tasks = left })) (activated-same k.tasks (named by t) at Assigned task s (eqb-true (named by t) at both.0) there both.1))
serve-same k cpu by at (call.IactTsk t) task s is there =
    let both = and_parts (t == at) (is_dormant task.status) is in
    same-row (act_tsk k t) _ (λ found passed.
    ap (λ left. ok (record k { tasks = left })) (activated-same k.tasks t at Assigned task s (eqb-true t at both.0) there both.1))
serve-same k cpu by at (call.MactTsk t to) task s is there =
    let both = and_parts (named by t == at) (is_dormant task.status) is in
    same-row (mact_tsk k (named by t) to) _ (λ found passed.
    ap (λ left. ok (record k { tasks = left })) (activated-same k.tasks (named by t) at (On to) task s (eqb-true (named by t) at both.0) there both.1))
serve-same k cpu by at (call.ImactTsk t to) task s is there =
    let both = and_parts (t == at) (is_dormant task.status) is in
    same-row (mact_tsk k t to) _ (λ found passed.
    ap (λ left. ok (record k { tasks = left })) (activated-same k.tasks t at (On to) task s (eqb-true t at both.0) there both.1))
serve-same k cpu by at (call.TerTsk t) task s is there =
    let both = and_parts (t == at) (is_some task.activation) is in
    same-row (ter_tsk k cpu by t) _ (λ found passed.
    ap (λ left. ok left) (quits-in-same k t at task s (eqb-true t at both.0) there both.1))
serve-same k cpu by at _ task s is there = absurd (false≢true is)

comes-once : (k : KernelState) (by id : ℕ) (c : Call) (task : Task) → starts c by id task ≡ true → comes_again k c ≡ false
comes-once k by id (call.LocSpn l) task is = absurd (false≢true is)
comes-once k by id _ task is = refl

refused-same : (one two : KernelState) (says : Result Served Ercd) → is_ok says ≡ true → or_refused one says ≡ or_refused two says
refused-same one two (Ok done) is = refl
refused-same one two (Err code) is = absurd (false≢true is)

ok-priorities : (says : Result Served Ercd) → is_ok says ≡ true → is_ok (with_priorities says) ≡ true
ok-priorities (Ok done) is = refl
ok-priorities (Err code) is = is

-- in the kernel in which the context has gone on
served-same : (k : KernelState) (cpu : ℕ) (who : Executor) (next : State) (at : ℕ) (c : Call) (task : Task) (s : State) →
    starts c (caller_on k cpu) at task ≡ true → task_at k.tasks at ≡ Some task → is_ok (serve_by k cpu (caller_on k cpu) c) ≡ true →
    serve_of (k-with (other at s) (λ xs. xs) (with_context_of k cpu who next)) cpu c ≡ serve_of (with_context_of k cpu who next) cpu c
served-same k cpu executor.Handler next at c task s is there serves =
    let now : KernelState = with_context_of k cpu executor.Handler next in
    ap (λ says. or_refused (k-with (other at s) (λ xs. xs) now) (with_priorities says)) (serve-same now cpu (caller_on now cpu) at c task s is there)
    ∙ refused-same _ now (with_priorities (serve_by now cpu (caller_on now cpu) c))
    (ok-priorities (serve_by now cpu (caller_on now cpu) c) (sym (starts-put k cpu executor.Handler next at c task is) ∙ serves))
served-same k cpu (executor.Task own) next at c task s is there serves =
    let now : KernelState = with_context_of k cpu (executor.Task own) next in
    ap (λ says. or_refused (k-with (other at s) (λ xs. xs) now) (with_priorities says)) (serve-same now cpu (caller_on now cpu) at c task s is there)
    ∙ refused-same _ now (with_priorities (serve_by now cpu (caller_on now cpu) c))
    (ok-priorities (serve_by now cpu (caller_on now cpu) c) (sym (starts-put k cpu (executor.Task own) next at c task is) ∙ serves))

called-same : (k : KernelState) (cpu : ℕ) (who : Executor) (at : ℕ) (c : Call) (task : Task) (s : State) → executor_on k cpu ≡ Some who →
    AtExecutor (other at s) (λ xs. xs) cpu (Some who) → read_of (context_of k cpu who) (caller_of k cpu) ≡ Ok c →
    starts c (caller_on k cpu) at task ≡ true → task_at k.tasks at ≡ Some task → is_ok (serve_by k cpu (caller_on k cpu) c) ≡ true →
    called (k-with (other at s) (λ xs. xs) k) cpu ≡ called k cpu
unfolding called
called-same k cpu who at c task s on alone asks is there serves =
    let new : KernelState = k-with (other at s) (λ xs. xs) k in
    let own : State = context_of k cpu who in
    let now : KernelState = with_context_of k cpu who (advanced own) in
    let first : context_on new cpu ≡ Some own = ap (option_map (context_of new cpu)) on ∙ ap Some (context-with (other at s) (λ xs. xs) k cpu who alone) in
    let second : context_on k cpu ≡ Some own = ap (option_map (context_of k cpu)) on in
    let gone : with_changed_context advanced new cpu ≡ k-with (other at s) (λ xs. xs) now =
    ap (changed_in advanced new cpu) on ∙ changed-with (other at s) (λ xs. xs) advanced k cpu (Some who) alone in
    let went : with_changed_context advanced k cpu ≡ now = ap (changed_in advanced k cpu) on in
    ap (called_in new cpu (caller_of k cpu)) first
    ∙ ap (called_for new cpu) asks
    ∙ ap (λ test. if test then new else replied cpu (served_call (with_changed_context advanced new cpu) cpu (Ok c)))
    (comes-once new (caller_on k cpu) at c task is)
    ∙ ap (λ it. replied cpu (serve_of it cpu c)) gone
    ∙ ap (replied cpu) (served-same k cpu who (advanced own) at c task s is there serves)
    ∙ ap (λ it. replied cpu (serve_of it cpu c)) (sym went)
    ∙ sym (ap (λ test. if test then k else replied cpu (served_call (with_changed_context advanced k cpu) cpu (Ok c)))
    (comes-once k (caller_on k cpu) at c task is))
    ∙ sym (ap (called_for k cpu) asks)
    ∙ sym (ap (called_in k cpu (caller_of k cpu)) second)

-- A step that calls.

pub record CallsSo (b : BoardState) (cpu : ℕ) : Type 0 where
  pub who : Executor
  pub on : b.kernel.off ≡ false
  pub executes : executor_on b.kernel cpu ≡ Some who
  pub uninterrupted : deliverable b.kernel cpu ≡ None
  pub calls : (left_by b cpu who).outcome ≡ Syscall

outcome-calls : (b : BoardState) (cpu at address : ℕ) (outcome : Outcome) → (instruction_done b cpu at outcome).report ≡ report.Called address →
    outcome ≡ Syscall
outcome-calls b cpu at address Done is = let wrong : ⊥ = cc in absurd wrong
outcome-calls b cpu at address Syscall is = refl
outcome-calls b cpu at address (Exception code epc bd) is = let wrong : ⊥ = cc in absurd wrong

executes-calls : (b : BoardState) (cpu address : ℕ) (by : Option Executor) → b.kernel.off ≡ false → deliverable b.kernel cpu ≡ None →
    executor_on b.kernel cpu ≡ by →
    (executes_in b cpu (executed_in b.kernel cpu b.memory b.links by)).report ≡ report.Called address → CallsSo b cpu
executes-calls b cpu address None on none is told = let wrong : ⊥ = cc in absurd wrong
executes-calls b cpu address (Some who) on none is told = record {
  who = who;
  on = on;
  executes = is;
  uninterrupted = none;
  calls = outcome-calls (with_executed b (executed_by b.kernel cpu who (context_of b.kernel cpu who).pc (left_by b cpu who))) cpu
      (context_of b.kernel cpu who).pc address (left_by b cpu who).outcome told;
}

accepts-calls : (b : BoardState) (cpu address : ℕ) (line : Option ℕ) → b.kernel.off ≡ false → deliverable b.kernel cpu ≡ line →
    (accepts_or_executes b cpu line).report ≡ report.Called address → CallsSo b cpu
accepts-calls b cpu address None on is told = executes-calls b cpu address (executor_on b.kernel cpu) on is refl told
accepts-calls b cpu address (Some line) on is told = let wrong : ⊥ = cc in absurd wrong

stopped-calls : (b : BoardState) (cpu address : ℕ) (stopped : Bool) → b.kernel.off ≡ false →
    (if stopped then reported b report.Stopped else accepts_or_executes b cpu (deliverable b.kernel cpu)).report ≡ report.Called address →
    CallsSo b cpu
stopped-calls b cpu address true on told = let wrong : ⊥ = cc in absurd wrong
stopped-calls b cpu address false on told = accepts-calls b cpu address (deliverable b.kernel cpu) on refl told

found-calls : (b : BoardState) (cpu address : ℕ) (found : Option Processor) → b.kernel.off ≡ false →
    (stepped_in b cpu found).report ≡ report.Called address → CallsSo b cpu
found-calls b cpu address None on told = let wrong : ⊥ = cc in absurd wrong
found-calls b cpu address (Some p) on told = stopped-calls b cpu address p.stopped on told

off-calls : (b : BoardState) (cpu address : ℕ) (off : Bool) → b.kernel.off ≡ off →
    (if off then reported b report.Off else stepped b cpu).report ≡ report.Called address → CallsSo b cpu
off-calls b cpu address true is told = let wrong : ⊥ = cc in absurd wrong
off-calls b cpu address false is told = found-calls b cpu address (processor_at b.kernel cpu) is told

pub calls-so : (b : BoardState) (cpu address : ℕ) → (happens b (Step cpu)).report ≡ report.Called address → CallsSo b cpu
unfolding happens
calls-so b cpu address told = off-calls b cpu address b.kernel.off refl told

-- what it comes to
call-is : (b : BoardState) (cpu : ℕ) (who : Executor) → b.kernel.off ≡ false → executor_on b.kernel cpu ≡ Some who →
    deliverable b.kernel cpu ≡ None → (left_by b cpu who).outcome ≡ Syscall →
    happens b (Step cpu)
    ≡ then_dispatched (record b {
      kernel = called b.kernel cpu;
      memory = (left_by b cpu who).memory;
      links = without (left_by b cpu who).links cpu;
    }) (report.Called (context_of b.kernel cpu who).pc)
call-is b cpu who on executes none calls =
    let left : Ran = left_by b cpu who in
    let pc : ℕ = (context_of b.kernel cpu who).pc in
    step-is b cpu who on executes none
    ∙ ap (λ outcome. instruction_done (with_executed b (executed_by b.kernel cpu who pc left)) cpu pc outcome) calls
    ∙ ap (λ k. then_dispatched (record b { kernel = called k cpu; memory = left.memory; links = without left.links cpu }) (report.Called pc))
    (ap (with_context_of b.kernel cpu who) (syscall-keeps b cpu who calls) ∙ put-same b.kernel cpu who)

start-at : (b : BoardState) (cpu at : ℕ) (who : Executor) (c : Call) (task : Task) (s : State) → b.kernel.off ≡ false →
    executor_on b.kernel cpu ≡ Some who → deliverable b.kernel cpu ≡ None → (left_by b cpu who).outcome ≡ Syscall →
    AtExecutor (other at s) (λ xs. xs) cpu (Some who) → read_of (context_of b.kernel cpu who) (caller_of b.kernel cpu) ≡ Ok c →
    starts c (caller_on b.kernel cpu) at task ≡ true → task_at b.kernel.tasks at ≡ Some task →
    is_ok (serve_by b.kernel cpu (caller_on b.kernel cpu) c) ≡ true →
    happens (with_agent b (agents.Task at) s) (Step cpu) ≡ happens b (Step cpu)
start-at b cpu at who c task s on executes none calls alone asks is there serves =
    let new : BoardState = with_agent b (agents.Task at) s in
    let same : context_of new.kernel cpu who ≡ context_of b.kernel cpu who = context-with (other at s) (λ xs. xs) b.kernel cpu who alone in
    call-is new cpu who on executes none (ap (λ x. (ran cpu x b.memory b.links).outcome) same ∙ calls)
    ∙ ap (λ x. then_dispatched (record b {
      kernel = called new.kernel cpu;
      memory = (ran cpu x b.memory b.links).memory;
      links = without (ran cpu x b.memory b.links).links cpu;
    }) (report.Called x.pc)) same
    ∙ ap (λ k. then_dispatched (record b {
      kernel = k;
      memory = (left_by b cpu who).memory;
      links = without (left_by b cpu who).links cpu;
    }) (report.Called (context_of b.kernel cpu who).pc)) (called-same b.kernel cpu who at c task s executes alone asks is there serves)
    ∙ sym (call-is b cpu who on executes none calls)

context-so : (b : BoardState) (cpu : ℕ) (who : Executor) (x : State) → executor_on b.kernel cpu ≡ Some who → context_on b.kernel cpu ≡ Some x →
    x ≡ context_of b.kernel cpu who
context-so b cpu who x on is =
    let both : Some (context_of b.kernel cpu who) ≡ Some x = sym (ap (option_map (context_of b.kernel cpu)) on) ∙ is in
    cc

pub start : (b : BoardState) (event : Event) (who : Agent) (s : State) → Starts b event who → (Executes b event who → ⊥) →
    happens (with_agent b who s) event ≡ happens b event
start b event who s it never =
    let so = calls-so b it.cpu it.calls.address it.calls.steps in
    let alone : AtExecutor (other it.id s) (λ xs. xs) it.cpu (Some so.who) = task-at it.id it.cpu s (Some so.who) (λ is.
    never (record {
      cpu = it.cpu;
      steps = it.steps;
      executes = ap (option_map (agent_by it.cpu)) (so.executes ∙ is) ∙ sym (ap Some it.is);
      uninterrupted = so.uninterrupted;
    })) in
    ap (λ x. happens (with_agent b x s) event) it.is
    ∙ ap (happens (with_agent b (agents.Task it.id) s)) it.steps
    ∙ start-at b it.cpu it.id so.who it.call it.task s so.on so.executes so.uninterrupted so.calls alone
    (subst (λ x. read_of x (caller_of b.kernel it.cpu) ≡ Ok it.call) (context-so b it.cpu so.who it.calls.context so.executes it.calls.executes)
    it.calls.asks) it.starts it.there it.serves
    ∙ sym (ap (happens b) it.steps)

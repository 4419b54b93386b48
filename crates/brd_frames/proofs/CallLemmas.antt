-- What a SYSCALL leaves where contexts in the kernel are other ones.
use Rattle.std.proofs.Common.{◌≡◌, ℕ, Bool, true, false, List, refl, sym, ap, subst, ◌∙◌}
use Rattle.std.specs.Prelude.{if◌then◌else◌, ◌==◌, ◌&&◌, [], ◌∷◌, find, slice_set, Option, None, Some, is_some, is_ok, unwrap_or, Result, Ok, Err}
use Rattle.std.specs.Option.{option_map}
use Rattle.std.proofs.lemmas.Bool.{false≢true}
use Rattle.std.proofs.lemmas.List.{set-get_or}
use Rattle.brd_exec.specs.State.{State, read, advanced}
use Rattle.brd_tasks.specs.declared.task.Task.{Task}
use Rattle.brd_tasks.specs.Tasks.{task_at, no_context}
use Rattle.brd_kernel.specs.declared.processor.Processor.{Processor}
use Rattle.brd_kernel.specs.declared.processor.Executor.{Executor}
use Rattle.brd_kernel.specs.declared.processor.Executor.TheVariants as executor
use Rattle.brd_kernel.specs.declared.call.Call.{Call}
use Rattle.brd_kernel.specs.declared.call.Call.TheVariants as call
use Rattle.brd_kernel.specs.declared.call.Ercd.{Ercd}
use Rattle.brd_kernel.specs.declared.call.Ercd.TheVariants.{Id, Par, Iluse, Obj, Qovr}
use Rattle.brd_kernel.specs.declared.call.Reply.{Reply}
use Rattle.brd_kernel.specs.declared.call.Reply.TheVariants.{Answer, Silent, Again}
use Rattle.brd_kernel.specs.Answer.{code_of}
use Rattle.brd_kernel.specs.Kernel.{KernelState, processor_at, running_in, executor_by, executor_in, executor_on, context_of, with_context_of, context_on}
use Rattle.brd_kernel.specs.Row.{Row, Served, refused, served_object, served, or_refused}
use Rattle.brd_kernel.specs.Services.{is_held_elsewhere, is_no_processor, named, act_tsk, mact_tsk, ter_tsk, caller_on, serve_by, with_priorities, comes_again}
use Rattle.brd_sysgate.specs.declared.gate.Agent.{Agent}
use Rattle.brd_sysgate.specs.declared.gate.Agent.TheVariants as agent
use Rattle.brd_sysgate.specs.declared.gate.Caller.{Caller}
use Rattle.brd_sysgate.specs.declared.place.Place.{Place}
use Rattle.brd_sysgate.specs.declared.place.Place.TheVariants as place
use Rattle.brd_sysgate.specs.Gate.{Service, table_of, may_call, arguments_of, allowed, read_of, written, agent_by, agent_in, caller_of, served_call, changed_in, with_changed_context, replied, is_again, called_for, called_in, called}
use Rattle.brd_frames.specs.Apart.{starts}
use Rattle.brd_frames.proofs.TableLemmas.{Contexts, At, Unsteady}
use Rattle.brd_frames.proofs.KernelLemmas.{k-with}
use Rattle.brd_frames.proofs.ServiceLemmas.{AtExecutor, r-with, StaysBy, Stays, Alike, Frees, serve-alike, priorities-alike}

-- The context of who executes.

pub context-with : (f g : Contexts) (k : KernelState) (cpu : ℕ) (who : Executor) → AtExecutor f g cpu (Some who) →
    context_of (k-with f g k) cpu who ≡ context_of k cpu who
context-with f g k cpu executor.Handler at = at.reads k.handler_contexts
context-with f g k cpu (executor.Task id) at = at.reads k.tasks.contexts

pub put-with : (f g : Contexts) (k : KernelState) (cpu : ℕ) (who : Executor) (s : State) → AtExecutor f g cpu (Some who) →
    with_context_of (k-with f g k) cpu who s ≡ k-with f g (with_context_of k cpu who s)
put-with f g k cpu executor.Handler s at =
    ap (λ contexts. record (k-with f g k) { handler_contexts = contexts }) (sym (at.writes k.handler_contexts s))
put-with f g k cpu (executor.Task id) s at =
    ap (λ contexts. record (k-with f g k) { tasks = record k.tasks { contexts = contexts } }) (sym (at.writes k.tasks.contexts s))

pub changed-with : (f g : Contexts) (change : State → State) (k : KernelState) (cpu : ℕ) (who : Option Executor) → AtExecutor f g cpu who →
    changed_in change (k-with f g k) cpu who ≡ k-with f g (changed_in change k cpu who)
changed-with f g change k cpu None at = refl
changed-with f g change k cpu (Some who) at =
    ap (λ s. with_context_of (k-with f g k) cpu who (change s)) (context-with f g k cpu who at)
    ∙ put-with f g k cpu who (change (context_of k cpu who)) at

pub put-same : (k : KernelState) (cpu : ℕ) (who : Executor) → with_context_of k cpu who (context_of k cpu who) ≡ k
put-same k cpu executor.Handler = ap (λ contexts. record k { handler_contexts = contexts }) (set-get_or k.handler_contexts cpu no_context)
put-same k cpu (executor.Task id) =
    ap (λ contexts. record k { tasks = record k.tasks { contexts = contexts } }) (set-get_or k.tasks.contexts id no_context)

changed-nothing : (k : KernelState) (cpu : ℕ) (who : Option Executor) → changed_in (λ s. s) k cpu who ≡ k
changed-nothing k cpu None = refl
changed-nothing k cpu (Some who) = put-same k cpu who

pub put-executor : (k : KernelState) (cpu other : ℕ) (who : Executor) (s : State) →
    executor_on (with_context_of k cpu who s) other ≡ executor_on k other
put-executor k cpu other executor.Handler s = refl
put-executor k cpu other (executor.Task id) s = refl

pub put-unsteady : (f : Contexts) (k : KernelState) (cpu : ℕ) (who : Executor) (s : State) → Unsteady f k.tasks →
    Unsteady f (with_context_of k cpu who s).tasks
put-unsteady f k cpu executor.Handler s free = free
put-unsteady f k cpu (executor.Task id) s free = free

-- The reply.

replied-by : (f g : Contexts) (k : KernelState) (cpu : ℕ) (now : KernelState) (reply : Reply) → StaysBy k cpu now reply →
    AtExecutor f g cpu (executor_on k cpu) →
    replied cpu (record { kernel = k-with f g now; reply = reply }) ≡ k-with f g (replied cpu (record { kernel = now; reply = reply }))
replied-by f g k cpu now (Answer code second) stays at =
    changed-with f g (λ s. written s (Answer code second)) now cpu (executor_on now cpu)
    (subst (λ who. AtExecutor f g cpu who) (sym stays) at)
replied-by f g k cpu now Silent stays at =
    changed-nothing (k-with f g now) cpu (executor_on now cpu) ∙ ap (k-with f g) (sym (changed-nothing now cpu (executor_on now cpu)))
replied-by f g k cpu now Again stays at =
    changed-nothing (k-with f g now) cpu (executor_on now cpu) ∙ ap (k-with f g) (sym (changed-nothing now cpu (executor_on now cpu)))

replied-is : (f g : Contexts) (k : KernelState) (cpu : ℕ) (one : Result Served Ercd) → Stays k cpu one →
    AtExecutor f g cpu (executor_on k cpu) →
    replied cpu (or_refused (k-with f g k) (r-with f g one)) ≡ k-with f g (replied cpu (or_refused k one))
replied-is f g k cpu (Ok done) stays at = replied-by f g k cpu done.kernel done.reply stays at
replied-is f g k cpu (Err code) stays at = replied-by f g k cpu k (Answer (code_of code) None) refl at

replied-alike : (f g : Contexts) (k : KernelState) (cpu : ℕ) (one two : Result Served Ercd) → Alike f g k cpu one two →
    AtExecutor f g cpu (executor_on k cpu) →
    replied cpu (or_refused (k-with f g k) two) ≡ k-with f g (replied cpu (or_refused k one))
replied-alike f g k cpu one two alike at =
    ap (λ says. replied cpu (or_refused (k-with f g k) says)) alike.is ∙ replied-is f g k cpu one alike.stays at

-- From where a call may come: ext_tsk from a task, ret_int from a handler.

abbrev fits : Place → Call → Bool
fits place.Handler call.ExtTsk = false
fits place.LockedHandler call.ExtTsk = false
fits place.NotHoldingHandler call.ExtTsk = false
fits place.Anywhere call.ExtTsk = false
fits _ call.ExtTsk = true
fits place.LockedHandler call.RetInt = true
fits _ call.RetInt = false
fits _ _ = true

abbrev all_fit : List ℕ → List Service → Bool
all_fit a [] = true
all_fit a (s ∷ services) = fits s.place (s.call a) && all_fit a services

table-fits : (standard : Bool) (a : List ℕ) → all_fit a (table_of standard) ≡ true
table-fits true a = refl
table-fits false a = refl

-- a call that was let through
record Let (who : Agent) (first : ℕ) (c : Call) : Type 0 where
  from : Place
  may : may_call who from first ≡ true
  fit : fits from c ≡ true

first-true : (x y : Bool) → (x && y) ≡ true → x ≡ true
first-true true y is = refl
first-true false y is = is

second-true : (x y : Bool) → (x && y) ≡ true → y ≡ true
second-true true y is = is
second-true false y is = absurd (false≢true is)

let-row : (who : Agent) (first : ℕ) (from : Place) (it c : Call) (may : Bool) (code : Ercd) → may_call who from first ≡ may →
    fits from it ≡ true → (if may then Ok it else Err code) ≡ Ok c → Let who first c
let-row who first from it c true code may fit is =
    let same : it ≡ c = cc in
    record { from = from; may = may; fit = subst (λ x. fits from x ≡ true) same fit }
let-row who first from it c false code may fit is = let wrong : ⊥ = cc in absurd wrong

let-by : (here : Bool) (who : Agent) (first number : ℕ) (a : List ℕ) (s : Service) (services : List Service) (c : Call) →
    fits s.place (s.call a) ≡ true →
    (allowed who first (option_map (λ x. record { place = x.place; call = x.call a }) (find (λ x. x.number == number) services)) ≡ Ok c → Let who first c) →
    allowed who first (option_map (λ x. record { place = x.place; call = x.call a })
    (if here then Some s else find (λ x. x.number == number) services)) ≡ Ok c → Let who first c
let-by true who first number a s services c fit rest is = let-row who first s.place (s.call a) c (may_call who s.place first) _ refl fit is
let-by false who first number a s services c fit rest is = rest is

let-of : (who : Agent) (first number : ℕ) (a : List ℕ) (services : List Service) (c : Call) → all_fit a services ≡ true →
    allowed who first (option_map (λ x. record { place = x.place; call = x.call a }) (find (λ x. x.number == number) services)) ≡ Ok c →
    Let who first c
let-of who first number a [] c fit is = let wrong : ⊥ = cc in absurd wrong
let-of who first number a (s ∷ services) c fit is =
    let-by (s.number == number) who first number a s services c (first-true (fits s.place (s.call a)) (all_fit a services) fit)
    (let-of who first number a services c (second-true (fits s.place (s.call a)) (all_fit a services) fit)) is

let-read : (s : State) (who : Caller) (c : Call) → read_of s who ≡ Ok c → Let who.agent (read s 4) c
let-read s who c is =
    let-of who.agent (read s 4) (read s 2) (arguments_of s) (table_of who.standard) c (table-fits who.standard (arguments_of s)) is

handler-exits : (locked holding : Bool) (from : Place) (first : ℕ) → may_call (agent.Handler locked holding) from first ≡ true →
    fits from call.ExtTsk ≡ true → ⊥
handler-exits locked holding place.Handler first may fit = false≢true fit
handler-exits locked holding place.LockedHandler first may fit = false≢true fit
handler-exits locked holding place.NotHoldingHandler first may fit = false≢true fit
handler-exits locked holding place.Anywhere first may fit = false≢true fit
handler-exits locked holding place.Task first may fit = false≢true may
handler-exits locked holding place.LockedTask first may fit = false≢true may
handler-exits locked holding place.NotHolding first may fit = false≢true may
handler-exits locked holding place.Waiting first may fit = false≢true may
handler-exits locked holding place.OnTask first may fit = false≢true may

task-returns : (id : ℕ) (locked disabled holding : Bool) (from : Place) (first : ℕ) →
    may_call (agent.Task id locked disabled holding) from first ≡ true → fits from call.RetInt ≡ true → ⊥
task-returns id locked disabled holding place.Handler first may fit = false≢true may
task-returns id locked disabled holding place.LockedHandler first may fit = false≢true may
task-returns id locked disabled holding place.NotHoldingHandler first may fit = false≢true may
task-returns id locked disabled holding place.Anywhere first may fit = false≢true fit
task-returns id locked disabled holding place.Task first may fit = false≢true fit
task-returns id locked disabled holding place.LockedTask first may fit = false≢true fit
task-returns id locked disabled holding place.NotHolding first may fit = false≢true fit
task-returns id locked disabled holding place.Waiting first may fit = false≢true fit
task-returns id locked disabled holding place.OnTask first may fit = false≢true fit

-- Who makes a call, by who executes.

-- a handler that executes calls as such
record CallsAsHandler (found : Option Processor) (id : ℕ) : Type 0 where
  locked : Bool
  holding : Bool
  calls : agent_in id found ≡ agent.Handler locked holding

handler-by : (stopped : Bool) (running handling : Option ℕ) (id : ℕ) (p : Processor) → p.handling ≡ handling →
    (if stopped then None else executor_by running handling) ≡ Some executor.Handler → CallsAsHandler (Some p) id
handler-by true running handling id p has is = let wrong : ⊥ = cc in absurd wrong
handler-by false running (Some line) id p has is =
    record { locked = p.locked; holding = is_some p.spin; calls = ap (agent_by id p) has }
handler-by false (Some other) None id p has is = let wrong : ⊥ = cc in absurd wrong
handler-by false None None id p has is = let wrong : ⊥ = cc in absurd wrong

handler-calls : (found : Option Processor) (id : ℕ) → executor_in found ≡ Some executor.Handler → CallsAsHandler found id
handler-calls None id is = let wrong : ⊥ = cc in absurd wrong
handler-calls (Some p) id is = handler-by p.stopped p.running p.handling id p refl is

-- a task that executes is the one that runs, and calls as such
record CallsAsTask (found : Option Processor) (id task : ℕ) : Type 0 where
  locked : Bool
  disabled : Bool
  holding : Bool
  calls : agent_in id found ≡ agent.Task id locked disabled holding
  runs : running_in found ≡ Some task

runs-by : (running : Option ℕ) (task : ℕ) → executor_by running None ≡ Some (executor.Task task) → running ≡ Some task
runs-by None task is = let wrong : ⊥ = cc in absurd wrong
runs-by (Some other) task is = let same : other ≡ task = cc in ap Some same

task-by : (stopped : Bool) (handling : Option ℕ) (id task : ℕ) (p : Processor) → p.handling ≡ handling →
    (if stopped then None else executor_by p.running handling) ≡ Some (executor.Task task) → CallsAsTask (Some p) id task
task-by true handling id task p has is = let wrong : ⊥ = cc in absurd wrong
task-by false (Some line) id task p has is = let wrong : ⊥ = cc in absurd wrong
task-by false None id task p has is = record {
  locked = p.locked;
  disabled = p.disabled;
  holding = is_some p.spin;
  calls = ap (agent_by id p) has;
  runs = runs-by p.running task is;
}

task-calls : (found : Option Processor) (id task : ℕ) → executor_in found ≡ Some (executor.Task task) → CallsAsTask found id task
task-calls None id task is = let wrong : ⊥ = cc in absurd wrong
task-calls (Some p) id task is = task-by p.stopped p.handling id task p refl is

-- What the gate has shown of a call, for what is left alone.

exits-at : (f g : Contexts) (k : KernelState) (cpu : ℕ) (who : Executor) (s : State) (c : Call) → executor_on k cpu ≡ Some who →
    AtExecutor f g cpu (Some who) → read_of s (caller_of k cpu) ≡ Ok c → c ≡ call.ExtTsk → At f (caller_on k cpu)
exits-at f g k cpu executor.Handler s c on at asks is =
    let it = let-read s (caller_of k cpu) c asks in
    let by = handler-calls (processor_at k cpu) (caller_on k cpu) on in
    absurd (handler-exits by.locked by.holding it.from (read s 4)
    (subst (λ x. may_call x it.from (read s 4) ≡ true) by.calls it.may)
    (subst (λ x. fits it.from x ≡ true) is it.fit))
exits-at f g k cpu (executor.Task id) s c on at asks is =
    subst (λ x. At f (unwrap_or x 0)) (sym (task-calls (processor_at k cpu) 0 id on).runs) at

returns-at : (f g : Contexts) (k : KernelState) (cpu : ℕ) (who : Executor) (s : State) (c : Call) → executor_on k cpu ≡ Some who →
    AtExecutor f g cpu (Some who) → read_of s (caller_of k cpu) ≡ Ok c → c ≡ call.RetInt → At g cpu
returns-at f g k cpu executor.Handler s c on at asks is = at
returns-at f g k cpu (executor.Task id) s c on at asks is =
    let it = let-read s (caller_of k cpu) c asks in
    let by = task-calls (processor_at k cpu) (caller_on k cpu) id on in
    absurd (task-returns (caller_on k cpu) by.locked by.disabled by.holding it.from (read s 4)
    (subst (λ x. may_call x it.from (read s 4) ≡ true) by.calls it.may)
    (subst (λ x. fits it.from x ≡ true) is it.fit))

-- who calls ext_tsk is the task that executes
pub exits-task : (k : KernelState) (cpu : ℕ) (who : Executor) (next s : State) (c : Call) (id : ℕ) → executor_on k cpu ≡ Some who →
    read_of s (caller_of k cpu) ≡ Ok c → c ≡ call.ExtTsk → caller_on (with_context_of k cpu who next) cpu ≡ id →
    executor_on k cpu ≡ Some (executor.Task id)
exits-task k cpu executor.Handler next s c id on asks is same =
    let it = let-read s (caller_of k cpu) c asks in
    let by = handler-calls (processor_at k cpu) (caller_on k cpu) on in
    absurd (handler-exits by.locked by.holding it.from (read s 4)
    (subst (λ x. may_call x it.from (read s 4) ≡ true) by.calls it.may)
    (subst (λ x. fits it.from x ≡ true) is it.fit))
exits-task k cpu (executor.Task at) next s c id on asks is same =
    on ∙ ap (λ x. Some (executor.Task x)) (sym (ap (λ x. unwrap_or x 0) (task-calls (processor_at k cpu) 0 at on).runs) ∙ same)

-- Whether a call is refused doesn't depend on contexts.

ok-refused : (test : Bool) (code : Ercd) (one two : Result Served Ercd) → is_ok one ≡ is_ok two →
    is_ok (refused test code one) ≡ is_ok (refused test code two)
ok-refused true code one two same = refl
ok-refused false code one two same = same

ok-object : {X : Type 0} (it : Row X) (does : X → Result Served Ercd) (found : Option X) → ((x : X) → is_ok (it.does x) ≡ is_ok (does x)) →
    is_ok (served_object it found) ≡ is_ok (served_object (record it { does = does }) found)
ok-object it does None same = refl
ok-object it does (Some x) same =
    ok-refused (it.iluse x) Iluse _ _ (ok-refused (it.obj x) Obj _ _ (ok-refused (it.qovr x) Qovr _ _ (same x)))

ok-row : {X : Type 0} (it : Row X) (does : X → Result Served Ercd) → ((x : X) → is_ok (it.does x) ≡ is_ok (does x)) →
    is_ok (served it) ≡ is_ok (served (record it { does = does }))
ok-row it does same = ok-refused it.bad_id Id _ _ (ok-refused it.bad_par Par _ _ (ok-object it does it.object same))

terminates-with : (f g : Contexts) (k : KernelState) (cpu by id : ℕ) →
    is_ok (served (ter_tsk k cpu by id)) ≡ is_ok (served (ter_tsk (k-with f g k) cpu by id))
unfolding is_held_elsewhere
terminates-with f g k cpu by id = ok-row (ter_tsk k cpu by id) _ (λ task. refl)

-- of a call that starts a task
pub starts-with : (f g : Contexts) (k : KernelState) (cpu by id : ℕ) (c : Call) (task : Task) → starts c by id task ≡ true →
    is_ok (serve_by k cpu by c) ≡ is_ok (serve_by (k-with f g k) cpu by c)
unfolding is_no_processor
starts-with f g k cpu by id (call.ActTsk t) task is = ok-row (act_tsk k (named by t)) _ (λ task. refl)
starts-with f g k cpu by id (call.IactTsk t) task is = ok-row (act_tsk k t) _ (λ task. refl)
starts-with f g k cpu by id (call.MactTsk t to) task is = ok-row (mact_tsk k (named by t) to) _ (λ task. refl)
starts-with f g k cpu by id (call.ImactTsk t to) task is = ok-row (mact_tsk k t to) _ (λ task. refl)
starts-with f g k cpu by id (call.TerTsk t) task is = terminates-with f g k cpu by t
starts-with f g k cpu by id _ task is = absurd (false≢true is)

pub starts-put : (k : KernelState) (cpu : ℕ) (who : Executor) (s : State) (id : ℕ) (c : Call) (task : Task) →
    starts c (caller_on k cpu) id task ≡ true →
    is_ok (serve_by k cpu (caller_on k cpu) c)
    ≡ is_ok (serve_by (with_context_of k cpu who s) cpu (caller_on (with_context_of k cpu who s) cpu) c)
starts-put k cpu executor.Handler s id c task is = starts-with (λ xs. xs) (λ xs. slice_set xs cpu s) k cpu (caller_on k cpu) id c task is
starts-put k cpu (executor.Task at) s id c task is = starts-with (λ xs. slice_set xs at s) (λ xs. xs) k cpu (caller_on k cpu) id c task is

pub terminates-put : (k : KernelState) (cpu : ℕ) (who : Executor) (s : State) (id : ℕ) →
    is_ok (served (ter_tsk k cpu (caller_on k cpu) id))
    ≡ is_ok (served (ter_tsk (with_context_of k cpu who s) cpu (caller_on (with_context_of k cpu who s) cpu) id))
terminates-put k cpu executor.Handler s id = terminates-with (λ xs. xs) (λ xs. slice_set xs cpu s) k cpu (caller_on k cpu) id
terminates-put k cpu (executor.Task at) s id = terminates-with (λ xs. slice_set xs at s) (λ xs. xs) k cpu (caller_on k cpu) id

-- What has to be left alone over a call of a processor: tasks that wait, who executes, and whom the call starts.
pub record CallFrees (f g : Contexts) (k : KernelState) (cpu : ℕ) : Type 0 where
  pub unsteady : Unsteady f k.tasks
  pub executes : AtExecutor f g cpu (executor_on k cpu)
  pub starts : (s : State) (c : Call) (id : ℕ) (task : Task) → context_on k cpu ≡ Some s → read_of s (caller_of k cpu) ≡ Ok c →
      task_at k.tasks id ≡ Some task → starts c (caller_on k cpu) id task ≡ true →
      is_ok (serve_by k cpu (caller_on k cpu) c) ≡ true → At f id

-- in the kernel in which the context has gone on

caller-put : (k : KernelState) (cpu : ℕ) (who : Executor) (s : State) → caller_on (with_context_of k cpu who s) cpu ≡ caller_on k cpu
caller-put k cpu executor.Handler s = refl
caller-put k cpu (executor.Task id) s = refl

starts-there : (f : Contexts) (k : KernelState) (cpu : ℕ) (who : Executor) (s : State) (id : ℕ) (c : Call) (task : Task) →
    (task_at k.tasks id ≡ Some task → starts c (caller_on k cpu) id task ≡ true → is_ok (serve_by k cpu (caller_on k cpu) c) ≡ true → At f id) →
    task_at (with_context_of k cpu who s).tasks id ≡ Some task → starts c (caller_on (with_context_of k cpu who s) cpu) id task ≡ true →
    is_ok (serve_by (with_context_of k cpu who s) cpu (caller_on (with_context_of k cpu who s) cpu) c) ≡ true → At f id
starts-there f k cpu executor.Handler s id c task at there is serves =
    at there is (starts-put k cpu executor.Handler s id c task is ∙ serves)
starts-there f k cpu (executor.Task own) s id c task at there is serves =
    at there is (starts-put k cpu (executor.Task own) s id c task is ∙ serves)

again-with : (f g : Contexts) (k : KernelState) (c : Call) → comes_again (k-with f g k) c ≡ comes_again k c
again-with f g k (call.LocSpn l) = refl
again-with f g k _ = refl

is_again-with : (f g : Contexts) (k : KernelState) (asks : Result Call Ercd) → is_again (k-with f g k) asks ≡ is_again k asks
is_again-with f g k (Ok c) = again-with f g k c
is_again-with f g k (Err code) = refl

abbrev gone_on : KernelState → ℕ → Executor → KernelState
gone_on k cpu who = with_context_of k cpu who (advanced (context_of k cpu who))

served-with : (f g : Contexts) (k : KernelState) (cpu : ℕ) (who : Executor) (s : State) (asks : Result Call Ercd) → CallFrees f g k cpu →
    executor_on k cpu ≡ Some who → context_on k cpu ≡ Some s → read_of s (caller_of k cpu) ≡ asks →
    replied cpu (served_call (k-with f g (gone_on k cpu who)) cpu asks) ≡ k-with f g (replied cpu (served_call (gone_on k cpu who) cpu asks))
served-with f g k cpu who s (Err code) free on there asks =
    let now : KernelState = gone_on k cpu who in
    replied-by f g now cpu now (Answer (code_of code) None) refl
    (subst (λ x. AtExecutor f g cpu x) (sym (put-executor k cpu cpu who (advanced (context_of k cpu who)))) free.executes)
served-with f g k cpu who s (Ok c) free on there asks =
    let next : State = advanced (context_of k cpu who) in
    let now : KernelState = gone_on k cpu who in
    let at : AtExecutor f g cpu (Some who) = subst (λ x. AtExecutor f g cpu x) on free.executes in
    let here : AtExecutor f g cpu (executor_on now cpu) =
    subst (λ x. AtExecutor f g cpu x) (sym (put-executor k cpu cpu who next)) free.executes in
    let frees : Frees f g now cpu (caller_on now cpu) c = record {
      unsteady = put-unsteady f k cpu who next free.unsteady;
      exits = λ is. subst (λ x. At f x) (sym (caller-put k cpu who next)) (exits-at f g k cpu who s c on at asks is);
      returns = returns-at f g k cpu who s c on at asks;
      starts = λ id task. starts-there f k cpu who next id c task (free.starts s c id task there asks);
    } in
    replied-alike f g now cpu (with_priorities (serve_by now cpu (caller_on now cpu) c)) _
    (priorities-alike f g now cpu (serve_by now cpu (caller_on now cpu) c) _ (serve-alike f g now cpu (caller_on now cpu) c frees)) here

called-if : (f g : Contexts) (k one two : KernelState) (again other : Bool) → other ≡ again → two ≡ k-with f g one →
    (if other then k-with f g k else two) ≡ k-with f g (if again then k else one)
called-if f g k one two true other same is = ap (λ test. if test then k-with f g k else two) same
called-if f g k one two false other same is = ap (λ test. if test then k-with f g k else two) same ∙ is

called-for-with : (f g : Contexts) (k : KernelState) (cpu : ℕ) (who : Executor) (s : State) (asks : Result Call Ercd) → CallFrees f g k cpu →
    executor_on k cpu ≡ Some who → context_on k cpu ≡ Some s → read_of s (caller_of k cpu) ≡ asks →
    called_for (k-with f g k) cpu asks ≡ k-with f g (called_for k cpu asks)
called-for-with f g k cpu who s asks free on there is =
    let at : AtExecutor f g cpu (Some who) = subst (λ x. AtExecutor f g cpu x) on free.executes in
    let gone : with_changed_context advanced k cpu ≡ gone_on k cpu who = ap (changed_in advanced k cpu) on in
    let other : with_changed_context advanced (k-with f g k) cpu ≡ k-with f g (gone_on k cpu who) =
    ap (changed_in advanced (k-with f g k) cpu) on ∙ changed-with f g advanced k cpu (Some who) at in
    called-if f g k (replied cpu (served_call (with_changed_context advanced k cpu) cpu asks))
    (replied cpu (served_call (with_changed_context advanced (k-with f g k) cpu) cpu asks))
    (is_again k asks) (is_again (k-with f g k) asks) (is_again-with f g k asks)
    (ap (λ now. replied cpu (served_call now cpu asks)) other
    ∙ served-with f g k cpu who s asks free on there is
    ∙ ap (λ now. k-with f g (replied cpu (served_call now cpu asks))) (sym gone))

called-in-with : (f g : Contexts) (k : KernelState) (cpu : ℕ) (who : Option Executor) → CallFrees f g k cpu → executor_on k cpu ≡ who →
    called_in (k-with f g k) cpu (caller_of k cpu) (option_map (context_of (k-with f g k) cpu) who)
    ≡ k-with f g (called_in k cpu (caller_of k cpu) (option_map (context_of k cpu) who))
called-in-with f g k cpu None free on = refl
called-in-with f g k cpu (Some who) free on =
    let s : State = context_of k cpu who in
    let at : AtExecutor f g cpu (Some who) = subst (λ x. AtExecutor f g cpu x) on free.executes in
    ap (λ c. called_for (k-with f g k) cpu (read_of c (caller_of k cpu))) (context-with f g k cpu who at)
    ∙ called-for-with f g k cpu who s (read_of s (caller_of k cpu)) free on (ap (option_map (context_of k cpu)) on) refl

pub called-with : (f g : Contexts) (k : KernelState) (cpu : ℕ) → CallFrees f g k cpu → called (k-with f g k) cpu ≡ k-with f g (called k cpu)
unfolding called
called-with f g k cpu free = called-in-with f g k cpu (executor_on k cpu) free refl

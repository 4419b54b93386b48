-- What ends waits and tasks, what time and dispatch make of a kernel, where contexts in it are other ones.
use Rattle.std.proofs.Common.{◌≡◌, ℕ, ◌+◌, Bool, true, false, List, refl, sym, ap, subst, ◌∙◌}
use Rattle.std.specs.Prelude.{zero, suc, ◌==◌, if◌then◌else◌, [], ◌∷◌, slice_index_or, slice_set, Option, None, Some, is_some}
use Rattle.brd_tasks.specs.declared.status.WaitReason.{WaitReason}
use Rattle.brd_tasks.specs.declared.status.WaitReason.TheVariants as reason
use Rattle.brd_tasks.specs.declared.status.WaitKind.{WaitKind}
use Rattle.brd_tasks.specs.declared.status.WaitKind.TheVariants as kind
use Rattle.brd_tasks.specs.declared.task.Task.{Task}
use Rattle.brd_tasks.specs.declared.task.Request.{Request}
use Rattle.brd_tasks.specs.Status.{waiting_of}
use Rattle.brd_tasks.specs.Tasks.{TaskTable, task_at, patched, where_there, lifted_to, changed, without_activation, noted, ended, ready_on}
use Rattle.brd_time.specs.Time.{Time, with_due, due_from}
use Rattle.brd_mutexes.specs.Lifting.{priority_at}
use Rattle.brd_mutexes.specs.Passes.{lifted}
use Rattle.brd_objects.specs.Mutexes.{given, next_owner_in}
use Rattle.brd_objects.specs.Table.{object_at, object_changed}
use Rattle.brd_kernel.specs.declared.processor.Processor.{Processor}
use Rattle.brd_kernel.specs.Answer.{e_ok}
use Rattle.brd_kernel.specs.Kernel.{KernelState, with_tasks, with_processor, processor_at, unmarked, letting_go}
use Rattle.brd_kernel.specs.Waits.{Change, changed_of, changed_for, leaving, moving, unlisted, reason_of, released_in, broken_off, ended_in, answer_by, timed_out, all_timed_out, rung_at, rung_below, rung, ticked_on, faulted_task, faulted_in, ended_by_fault}
use Rattle.brd_kernel.specs.Waits.{with_released, has_mutex_in, given_in, given_by_in, given_below, all_given_in, quits_in}
use Rattle.brd_kernel.specs.Waits.{base_in, bases_below, ceiling_in, ceilings_below, inheritor_of, inheritor_for, inheritors_below, priorities_of, lifted_in, prioritized_by, prioritized_below, prioritized}
use Rattle.brd_kernel.specs.Dispatch.{dispatched_one, dispatched_from, dispatched}
use Rattle.brd_kernel.proofs.WaitLemmas.{unlisted-only}
use Rattle.brd_frames.proofs.TableLemmas.{Contexts, t-with, Unsteady, Restarted, noted-with, changed-with, ended-with, released-with, released-free, queued_in, released-queued, restarted-still, noted-free}

-- the kernel with other contexts of tasks and of handlers
abbrev pub k-with : Contexts → Contexts → KernelState → KernelState
k-with f g k = record k { tasks = t-with f k.tasks; handler_contexts = g k.handler_contexts }

of-with : (f g : Contexts) (change : Change) (k : KernelState) (what : WaitKind) →
    changed_of change (k-with f g k) what ≡ k-with f g (changed_of change k what)
of-with f g change k kind.Semaphore = refl
of-with f g change k kind.Flag = refl
of-with f g change k kind.Room = refl
of-with f g change k kind.Datum = refl
of-with f g change k kind.Mutex = refl
of-with f g change k kind.Block = refl
of-with f g change k kind.Message = refl

pub changed_for-with : (f g : Contexts) (change : Change) (k : KernelState) (why : Option WaitReason) →
    changed_for change (k-with f g k) why ≡ k-with f g (changed_for change k why)
changed_for-with f g change k None = refl
changed_for-with f g change k (Some reason.Sleep) = refl
changed_for-with f g change k (Some reason.Delay) = refl
changed_for-with f g change k (Some (reason.On what object)) = of-with f g change k what

pub unlisted-with : (f g : Contexts) (k : KernelState) (id : ℕ) → unlisted (k-with f g k) id ≡ k-with f g (unlisted k id)
unlisted-with f g k id = changed_for-with f g (leaving id) k (reason_of k id)

-- Waits.

pub released_in-with : (f g : Contexts) (k : KernelState) (id answer : ℕ) (second : Option ℕ) → Unsteady f k.tasks →
    released_in (k-with f g k) id answer second ≡ k-with f g (released_in k id answer second)
released_in-with f g k id answer second free =
    ap (λ t. record (k-with f g k) { tasks = t; time = with_due k.time id None }) (released-with f k.tasks id answer second free)

unlisted-free : (f : Contexts) (k : KernelState) (id : ℕ) → Unsteady f k.tasks → Unsteady f (unlisted k id).tasks
unlisted-free f k id free = subst (λ t. Unsteady f t) (sym (unlisted-only k id (reason_of k id)).tasks) free

pub broken-with : (f g : Contexts) (k : KernelState) (id answer : ℕ) → Unsteady f k.tasks →
    broken_off (k-with f g k) id answer ≡ k-with f g (broken_off k id answer)
broken-with f g k id answer free =
    ap (λ out. released_in out id answer None) (unlisted-with f g k id)
    ∙ released_in-with f g (unlisted k id) id answer None (unlisted-free f k id free)

broken-free : (f : Contexts) (k : KernelState) (id answer : ℕ) → Unsteady f k.tasks → Unsteady f (broken_off k id answer).tasks
broken-free f k id answer free = released-free f (unlisted k id).tasks id answer None (unlisted-free f k id free)

all-timed-with : (f g : Contexts) (k : KernelState) (ids : List ℕ) → Unsteady f k.tasks →
    all_timed_out (k-with f g k) ids ≡ k-with f g (all_timed_out k ids)
all-timed-with f g k [] free = refl
all-timed-with f g k (id ∷ ids) free =
    ap (λ (now : KernelState). all_timed_out now ids) (broken-with f g k id (answer_by (reason_of k id)) free)
    ∙ all-timed-with f g (timed_out k id) ids (broken-free f k id (answer_by (reason_of k id)) free)

-- Priorities.

bases-with : (f : Contexts) (t : TaskTable) (n : ℕ) → bases_below (t-with f t) n ≡ bases_below t n
unfolding bases_below
bases-with f t zero = refl
bases-with f t (suc n) = ap (λ l. slice_set l n (base_in (task_at t n))) (bases-with f t n)

ceilings-with : (f g : Contexts) (k : KernelState) (n : ℕ) → ceilings_below (k-with f g k) n ≡ ceilings_below k n
unfolding ceilings_below
ceilings-with f g k zero = bases-with f k.tasks 256
ceilings-with f g k (suc n) = ap (ceiling_in (object_at k.mutexes n)) (ceilings-with f g k n)

inheritor-of-with : (f g : Contexts) (k : KernelState) (what : WaitKind) (object : ℕ) →
    inheritor_of (k-with f g k) what object ≡ inheritor_of k what object
inheritor-of-with f g k kind.Semaphore object = refl
inheritor-of-with f g k kind.Flag object = refl
inheritor-of-with f g k kind.Room object = refl
inheritor-of-with f g k kind.Datum object = refl
inheritor-of-with f g k kind.Mutex object = refl
inheritor-of-with f g k kind.Block object = refl
inheritor-of-with f g k kind.Message object = refl

inheritor-with : (f g : Contexts) (k : KernelState) (why : Option WaitReason) → inheritor_for (k-with f g k) why ≡ inheritor_for k why
inheritor-with f g k None = refl
inheritor-with f g k (Some reason.Sleep) = refl
inheritor-with f g k (Some reason.Delay) = refl
inheritor-with f g k (Some (reason.On what object)) = inheritor-of-with f g k what object

inheritors-with : (f g : Contexts) (k : KernelState) (n : ℕ) → inheritors_below (k-with f g k) n ≡ inheritors_below k n
unfolding inheritors_below
inheritors-with f g k zero = refl
inheritors-with f g k (suc n) =
    ap (λ l. slice_set l n (inheritor_for (k-with f g k) (reason_of k n))) (inheritors-with f g k n)
    ∙ ap (slice_set (inheritors_below k n) n) (inheritor-with f g k (reason_of k n))

priorities-with : (f g : Contexts) (k : KernelState) → priorities_of (k-with f g k) ≡ priorities_of k
priorities-with f g k =
    ap (λ own. lifted own (inheritors_below (k-with f g k) 256)) (ceilings-with f g k 256)
    ∙ ap (lifted (ceilings_below k 256)) (inheritors-with f g k 256)

lifted-in-with : (f g : Contexts) (k : KernelState) (id priority : ℕ) (why : Option WaitReason) →
    lifted_in (k-with f g k) id priority why ≡ k-with f g (lifted_in k id priority why)
lifted-in-with f g k id priority why =
    ap (λ t. changed_for (moving id priority) (record (k-with f g k) { tasks = t }) why) (changed-with f (lifted_to priority) k.tasks id)
    ∙ changed_for-with f g (moving id priority) (with_tasks k (changed (lifted_to priority) k.tasks id)) why

lifted-if-with : (f g : Contexts) (k : KernelState) (id priority : ℕ) (why : Option WaitReason) (same : Bool) →
    (if same then k-with f g k else lifted_in (k-with f g k) id priority why) ≡ k-with f g (if same then k else lifted_in k id priority why)
lifted-if-with f g k id priority why true = refl
lifted-if-with f g k id priority why false = lifted-in-with f g k id priority why

by-with : (f g : Contexts) (k : KernelState) (id priority : ℕ) (found : Option Task) →
    prioritized_by (k-with f g k) id priority found ≡ k-with f g (prioritized_by k id priority found)
by-with f g k id priority None = refl
by-with f g k id priority (Some task) = lifted-if-with f g k id priority (waiting_of task.status) (task.priority == priority)

below-with : (f g : Contexts) (k : KernelState) (priorities : List ℕ) (n : ℕ) →
    prioritized_below (k-with f g k) priorities n ≡ k-with f g (prioritized_below k priorities n)
unfolding prioritized_below
below-with f g k priorities zero = refl
below-with f g k priorities (suc n) =
    ap (λ (now : KernelState). prioritized_by now n (priority_at priorities n) (task_at now.tasks n)) (below-with f g k priorities n)
    ∙ by-with f g (prioritized_below k priorities n) n (priority_at priorities n) (task_at (prioritized_below k priorities n).tasks n)

if-priorities-with : (f g : Contexts) (k : KernelState) (standard : Bool) →
    (if standard then prioritized_below (k-with f g k) (priorities_of (k-with f g k)) 256 else k-with f g k)
    ≡ k-with f g (if standard then prioritized_below k (priorities_of k) 256 else k)
if-priorities-with f g k true =
    ap (λ priorities. prioritized_below (k-with f g k) priorities 256) (priorities-with f g k) ∙ below-with f g k (priorities_of k) 256
if-priorities-with f g k false = refl

pub priorities-given-with : (f g : Contexts) (k : KernelState) → prioritized (k-with f g k) ≡ k-with f g (prioritized k)
priorities-given-with f g k = if-priorities-with f g k k.standard

rung-below-with : (f g : Contexts) (k : KernelState) (place : ℕ) → rung_below (k-with f g k) place ≡ k-with f g (rung_below k place)
unfolding rung_below
rung-below-with f g k zero = refl
rung-below-with f g k (suc place) = ap (λ (x : KernelState). rung_at x place) (rung-below-with f g k place)

rung-with : (f g : Contexts) (k : KernelState) (standard : Bool) →
    (if standard then rung_below (k-with f g k) 128 else k-with f g k) ≡ k-with f g (if standard then rung_below k 128 else k)
rung-with f g k true = rung-below-with f g k 128
rung-with f g k false = refl

pub ticked-with : (f g : Contexts) (k : KernelState) (time : Time) → Unsteady f k.tasks →
    ticked_on (k-with f g k) time ≡ k-with f g (ticked_on k time)
ticked-with f g k time free =
    let ended : KernelState = all_timed_out (record k { time = time }) (due_from time 0) in
    ap (λ (x : KernelState). rung (prioritized x)) (all-timed-with f g (record k { time = time }) (due_from time 0) free)
    ∙ ap rung (priorities-given-with f g ended) ∙ rung-with f g (prioritized ended) (prioritized ended).standard

-- Mutexes that are given back.

pub released-if-with : (f g : Contexts) (k : KernelState) (id : Option ℕ) → Unsteady f k.tasks →
    with_released (k-with f g k) id ≡ k-with f g (with_released k id)
released-if-with f g k None free = refl
released-if-with f g k (Some id) free = released_in-with f g k id e_ok None free

released-if-free : (f : Contexts) (k : KernelState) (id : Option ℕ) → Unsteady f k.tasks → Unsteady f (with_released k id).tasks
released-if-free f k None free = free
released-if-free f k (Some id) free = released-free f k.tasks id e_ok None free

pub given_in-with : (f g : Contexts) (k : KernelState) (at : ℕ) → Unsteady f k.tasks → given_in (k-with f g k) at ≡ k-with f g (given_in k at)
given_in-with f g k at free =
    released-if-with f g (record k { mutexes = object_changed given k.mutexes at }) (next_owner_in (object_at k.mutexes at)) free

given-if-with : (f g : Contexts) (k : KernelState) (at : ℕ) (has : Bool) → Unsteady f k.tasks →
    (if has then given_in (k-with f g k) at else k-with f g k) ≡ k-with f g (if has then given_in k at else k)
given-if-with f g k at true free = given_in-with f g k at free
given-if-with f g k at false free = refl

given-if-free : (f : Contexts) (k : KernelState) (at : ℕ) (has : Bool) → Unsteady f k.tasks → Unsteady f (if has then given_in k at else k).tasks
given-if-free f k at true free =
    released-if-free f (record k { mutexes = object_changed given k.mutexes at }) (next_owner_in (object_at k.mutexes at)) free
given-if-free f k at false free = free

given-below-free : (f : Contexts) (k : KernelState) (id n : ℕ) → Unsteady f k.tasks → Unsteady f (given_below k id n).tasks
unfolding given_below
given-below-free f k id zero free = free
given-below-free f k id (suc n) free =
    let before : KernelState = given_below k id n in
    given-if-free f before n (has_mutex_in id (object_at before.mutexes n)) (given-below-free f k id n free)

given-below-with : (f g : Contexts) (k : KernelState) (id n : ℕ) → Unsteady f k.tasks →
    given_below (k-with f g k) id n ≡ k-with f g (given_below k id n)
unfolding given_below
given-below-with f g k id zero free = refl
given-below-with f g k id (suc n) free =
    let before : KernelState = given_below k id n in
    ap (λ now. given_by_in now id n) (given-below-with f g k id n free)
    ∙ given-if-with f g before n (has_mutex_in id (object_at before.mutexes n)) (given-below-free f k id n free)

all-given-if-with : (f g : Contexts) (k : KernelState) (id : ℕ) (standard : Bool) → Unsteady f k.tasks →
    (if standard then given_below (k-with f g k) id 256 else k-with f g k) ≡ k-with f g (if standard then given_below k id 256 else k)
all-given-if-with f g k id true free = given-below-with f g k id 256 free
all-given-if-with f g k id false free = refl

-- each task has the same start queued

released-if-queued : (k : KernelState) (id : Option ℕ) (at : ℕ) →
    queued_in (task_at (with_released k id).tasks at) ≡ queued_in (task_at k.tasks at)
released-if-queued k None at = refl
released-if-queued k (Some id) at = released-queued k.tasks id e_ok at None

given-if-queued : (k : KernelState) (mutex at : ℕ) (has : Bool) →
    queued_in (task_at (if has then given_in k mutex else k).tasks at) ≡ queued_in (task_at k.tasks at)
given-if-queued k mutex at true =
    released-if-queued (record k { mutexes = object_changed given k.mutexes mutex }) (next_owner_in (object_at k.mutexes mutex)) at
given-if-queued k mutex at false = refl

given-below-queued : (k : KernelState) (id at n : ℕ) → queued_in (task_at (given_below k id n).tasks at) ≡ queued_in (task_at k.tasks at)
unfolding given_below
given-below-queued k id at zero = refl
given-below-queued k id at (suc n) =
    let before : KernelState = given_below k id n in
    given-if-queued before n at (has_mutex_in id (object_at before.mutexes n)) ∙ given-below-queued k id at n

all-given-if-queued : (k : KernelState) (id at : ℕ) (standard : Bool) →
    queued_in (task_at (if standard then given_below k id 256 else k).tasks at) ≡ queued_in (task_at k.tasks at)
all-given-if-queued k id at true = given-below-queued k id at 256
all-given-if-queued k id at false = refl

pub all-given-queued : (k : KernelState) (id at : ℕ) → queued_in (task_at (all_given_in k id).tasks at) ≡ queued_in (task_at k.tasks at)
all-given-queued k id at = all-given-if-queued k id at k.standard

-- Ends.

pub ended_in-with : (f g : Contexts) (k : KernelState) (id : ℕ) → Restarted f k.tasks id →
    ended_in (k-with f g k) id ≡ k-with f g (ended_in k id)
ended_in-with f g k id at =
    ap (λ (out : KernelState). record out { tasks = ended (t-with f k.tasks) id; time = with_due k.time id None }) (unlisted-with f g k id)
    ∙ ap (λ t. record (k-with f g (unlisted k id)) { tasks = t; time = with_due k.time id None }) (ended-with f k.tasks id at)

pub quits_in-with : (f g : Contexts) (k : KernelState) (id : ℕ) → Unsteady f k.tasks → Restarted f k.tasks id →
    quits_in (k-with f g k) id ≡ k-with f g (quits_in k id)
quits_in-with f g k id free again =
    ap (λ now. ended_in now id) (all-given-if-with f g k id k.standard free)
    ∙ ended_in-with f g (all_given_in k id) id (restarted-still f k.tasks (all_given_in k id).tasks id (all-given-queued k id id) again)

pub set-same-some : {X : Type 0} (xs : List (Option X)) (i : ℕ) (x : Option X) (y : X) → slice_index_or xs i None ≡ Some y →
    slice_index_or (slice_set xs i x) i None ≡ x
set-same-some [] i x y there = let wrong : ⊥ = cc in absurd wrong
set-same-some (z ∷ zs) zero x y there = refl
set-same-some (z ∷ zs) (suc i) x y there = set-same-some zs i x y there

not-queued : (one task : Task) (request : Request) → Some (without_activation one) ≡ Some task → task.activation ≡ Some request → ⊥
not-queued one task request is queued =
    let same : without_activation one ≡ task = cc in
    let wrong : None ≡ Some request = ap (λ (x : Task). x.activation) same ∙ queued in
    cc

-- a task whose queued start was taken back isn't started anew
noted-none : (t : TaskTable) (id : ℕ) (row : Option Task) (task : Task) (request : Request) → task_at t id ≡ row →
    task_at (where_there t row (λ task. patched t id (without_activation task))) id ≡ Some task → task.activation ≡ Some request → ⊥
noted-none t id None task request found is queued = let wrong : ⊥ = cc in wrong
noted-none t id (Some one) task request found is queued =
    not-queued one task request (sym (set-same-some t.rows id (Some (without_activation one)) one found) ∙ is) queued

faulted-task-with : (f g : Contexts) (k : KernelState) (cpu : ℕ) (p : Processor) (running : Option ℕ) → Unsteady f k.tasks →
    faulted_task (k-with f g k) cpu p running ≡ k-with f g (faulted_task k cpu p running)
faulted-task-with f g k cpu p None free = refl
faulted-task-with f g k cpu p (Some id) free =
    let quiet : TaskTable = noted without_activation k.tasks id in
    ap (λ t. with_processor (quits_in (record (k-with f g k) { tasks = t }) id) cpu (unmarked p)) (noted-with f without_activation k.tasks id)
    ∙ ap (λ now. with_processor now cpu (unmarked p)) (quits_in-with f g (with_tasks k quiet) id
    (noted-free f without_activation k.tasks id free (λ task. refl))
    (λ task request there queued. absurd (noted-none k.tasks id (task_at k.tasks id) task request refl there queued)))

faulted-if-with : (f g : Contexts) (k : KernelState) (cpu : ℕ) (p : Processor) (handling : Bool) → Unsteady f k.tasks →
    (if handling then with_processor (k-with f g k) cpu (record (letting_go p) { stopped = true }) else faulted_task (k-with f g k) cpu p p.running)
    ≡ k-with f g (if handling then with_processor k cpu (record (letting_go p) { stopped = true }) else faulted_task k cpu p p.running)
faulted-if-with f g k cpu p true free = refl
faulted-if-with f g k cpu p false free = faulted-task-with f g k cpu p p.running free

faulted-in-with : (f g : Contexts) (k : KernelState) (cpu : ℕ) (found : Option Processor) → Unsteady f k.tasks →
    faulted_in (k-with f g k) cpu found ≡ k-with f g (faulted_in k cpu found)
faulted-in-with f g k cpu None free = refl
faulted-in-with f g k cpu (Some p) free = faulted-if-with f g k cpu p (is_some p.handling) free

pub fault-with : (f g : Contexts) (k : KernelState) (cpu : ℕ) → Unsteady f k.tasks →
    ended_by_fault (k-with f g k) cpu ≡ k-with f g (ended_by_fault k cpu)
fault-with f g k cpu free =
    ap prioritized (faulted-in-with f g k cpu (processor_at k cpu) free) ∙ priorities-given-with f g (faulted_in k cpu (processor_at k cpu))

-- Dispatch.

dispatched-from-with : (f : Contexts) (t : TaskTable) (cpu : ℕ) (ps : List (Option Processor)) →
    dispatched_from (t-with f t) cpu ps ≡ dispatched_from t cpu ps
dispatched-from-with f t cpu [] = refl
dispatched-from-with f t cpu (p ∷ ps) = ap (λ rest. dispatched_one p (ready_on t cpu) ∷ rest) (dispatched-from-with f t (cpu + 1) ps)

pub dispatched-with : (f g : Contexts) (k : KernelState) → dispatched (k-with f g k) ≡ k-with f g (dispatched k)
dispatched-with f g k = ap (λ ps. record (k-with f g k) { processors = ps }) (dispatched-from-with f k.tasks 0 k.processors)

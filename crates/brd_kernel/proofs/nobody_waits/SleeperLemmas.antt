-- No operation on a task leaves it asleep with a wake-up queued.
use Rattle.std.proofs.Common.{◌≡◌, ℕ, List, refl, sym, ap, subst, ◌∙◌}
use Rattle.std.specs.Prelude.{true, false, slice_index_or, slice_set, if◌then◌else◌, Option, None, Some, IfSome}
use Rattle.std.proofs.lemmas.Bool.{false≢true}
use Rattle.brd_tasks.specs.declared.status.WaitReason.{WaitReason}
use Rattle.brd_tasks.specs.declared.status.Status.{Status}
use Rattle.brd_tasks.specs.declared.status.Status.TheVariants.{Dormant, Ready, Waiting, Suspended, WaitingSuspended}
use Rattle.brd_tasks.specs.declared.task.Task.{Task}
use Rattle.brd_tasks.specs.declared.task.Request.{Request}
use Rattle.brd_tasks.specs.Status.{is_dormant, blocked, released}
use Rattle.brd_tasks.specs.Tasks.{TaskTable, task_at, started, processor_of, starts, placed, patched, where_there, activated, ended_by, ended, put_into, through, released_to, released_with, changed, noted}
use Rattle.brd_kernel.specs.Services.{is_sleep, is_asleep}
use Rattle.brd_kernel.specs.Waiting.{SleeperIsKept}
use Rattle.brd_kernel.proofs.who_waits.ListLemmas.{either}
use Rattle.brd_kernel.proofs.nobody_waits.TableLemmas.{set-keeps}
use Rattle.brd_kernel.proofs.who_waits.RowLemmas.{KeepsWait}

abbrev pub AreKept : TaskTable → Type 0
AreKept t = (id : ℕ) → IfSome (task_at t id) (λ task. SleeperIsKept task)

-- the row of a task is written anew
written : (t new : TaskTable) (id : ℕ) (task : Task) → new.rows ≡ slice_set t.rows id (Some task) → SleeperIsKept task → AreKept t → AreKept new
written t new id task is own was = λ at.
    subst (λ (rows : List (Option Task)). IfSome (slice_index_or rows at None) (λ x. SleeperIsKept x)) (sym is)
    (set-keeps (λ (found : Option Task). IfSome found (λ x. SleeperIsKept x)) t.rows id at (Some task) own (was at))

there-kept : (t : TaskTable) (id : ℕ) (change : Task → TaskTable) (row : Option Task) → task_at t id ≡ row →
    ((task : Task) → task_at t id ≡ Some task → SleeperIsKept task → AreKept (change task)) → AreKept t →
    AreKept (where_there t row change)
there-kept t id change None is all was = was
there-kept t id change (Some task) is all was =
    all task is (subst (λ (row : Option Task). IfSome row (λ x. SleeperIsKept x)) is (was id))

pub noted-kept : (note : Task → Task) (t : TaskTable) (id : ℕ) →
    ((task : Task) → task_at t id ≡ Some task → SleeperIsKept task → SleeperIsKept (note task)) → AreKept t →
    AreKept (noted note t id)
noted-kept note t id keeps was =
    there-kept t id (λ task. patched t id (note task)) (task_at t id) refl
    (λ task there own. written t (patched t id (note task)) id (note task) refl (keeps task there own) was) was

pub activated-kept : (t : TaskTable) (id : ℕ) (request : Request) → AreKept t → AreKept (activated t id request)
activated-kept t id request was =
    there-kept t id
    (λ task. if is_dormant task.status then starts t id (processor_of request task) task else patched t id
    (record task { activation = Some request })) (task_at t id) refl
    (λ task there own. either AreKept (is_dormant task.status) _ _
    (written t (starts t id (processor_of request task) task) id (started (processor_of request task) task) refl (λ asleep. refl) was)
    (written t (patched t id (record task { activation = Some request })) id (record task { activation = Some request }) refl own was)) was

ended-one : (t : TaskTable) (id : ℕ) (task : Task) (request : Option Request) → AreKept t → AreKept (ended_by t id task request)
ended-one t id task None was =
    written t (ended_by t id task None) id (record task { status = Dormant; wakeup = false }) refl (λ asleep. refl) was
ended-one t id task (Some request) was =
    written t (ended_by t id task (Some request)) id (started (processor_of request task) task) refl (λ asleep. refl) was

pub ended-kept : (t : TaskTable) (id : ℕ) → AreKept t → AreKept (ended t id)
ended-kept t id was =
    there-kept t id (λ task. ended_by t id task task.activation) (task_at t id) refl (λ task there own. ended-one t id task task.activation was) was

-- a task gets a state in which it may be
abbrev pub MayBe : Task → Option Status → Type 0
MayBe task None = Unit {0}
MayBe task (Some status) = is_asleep status ≡ true → task.wakeup ≡ false

put-kept : (t : TaskTable) (id : ℕ) (task : Task) (to : Option Status) → MayBe task to → AreKept t → AreKept (put_into t id task to)
put-kept t id task None may was = was
put-kept t id task (Some status) may was =
    written t (placed t id (record task { status = status })) id (record task { status = status }) refl may was

pub through-kept : (transition : Status → Option Status) (t : TaskTable) (id : ℕ) →
    ((task : Task) → task_at t id ≡ Some task → SleeperIsKept task → MayBe task (transition task.status)) → AreKept t →
    AreKept (through transition t id)
through-kept transition t id may was =
    there-kept t id (λ task. put_into t id task (transition task.status)) (task_at t id) refl
    (λ task there own. put-kept t id task (transition task.status) (may task there own) was) was

-- by a transition that leaves what it waits for
pub same-wait : (task : Task) (to : Option Status) → KeepsWait to task.status → SleeperIsKept task → MayBe task to
same-wait task None keeps own = tt
same-wait task (Some status) keeps own = λ asleep. own (ap is_sleep (sym keeps) ∙ asleep)

begins-by : (why : WaitReason) (task : Task) (s : Status) → (is_sleep (Some why) ≡ true → task.wakeup ≡ false) → MayBe task (blocked why s)
begins-by why task Dormant may = tt
begins-by why task Ready may = may
begins-by why task (Waiting other) may = tt
begins-by why task Suspended may = tt
begins-by why task (WaitingSuspended other) may = tt

-- a wait begins
pub blocked-kept : (why : WaitReason) (t : TaskTable) (id : ℕ) →
    ((task : Task) → task_at t id ≡ Some task → is_sleep (Some why) ≡ true → task.wakeup ≡ false) → AreKept t →
    AreKept (through (blocked why) t id)
blocked-kept why t id may was = through-kept (blocked why) t id (λ task there own. begins-by why task task.status (may task there)) was

awake : (s : Status) (task : Task) → MayBe task (released s)
awake Dormant task = tt
awake Ready task = tt
awake (Waiting why) task = λ asleep. absurd (false≢true asleep)
awake Suspended task = tt
awake (WaitingSuspended why) task = λ asleep. absurd (false≢true asleep)

released-one : (t : TaskTable) (id answer : ℕ) (second : Option ℕ) (task : Task) (to : Option Status) → MayBe task to → AreKept t →
    AreKept (released_to t id answer second task to)
released-one t id answer second task None may was = was
released-one t id answer second task (Some status) may was =
    written t (released_to t id answer second task (Some status)) id (record task { status = status }) refl may was

pub released-kept : (t : TaskTable) (id answer : ℕ) (second : Option ℕ) → AreKept t → AreKept (released_with t id answer second)
released-kept t id answer second was =
    there-kept t id (λ task. released_to t id answer second task (released task.status)) (task_at t id) refl
    (λ task there own. released-one t id answer second task (released task.status) (awake task.status task) was) was

-- a task gets another priority or processor
pub changed-kept : (change : Task → Task) (t : TaskTable) (id : ℕ) → ((task : Task) → SleeperIsKept task → SleeperIsKept (change task)) → AreKept t →
    AreKept (changed change t id)
changed-kept change t id keeps was =
    there-kept t id (λ task. placed t id (change task)) (task_at t id) refl
    (λ task there own. written t (placed t id (change task)) id (change task) refl (keeps task own) was) was

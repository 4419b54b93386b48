-- What each operation on a task makes of its wait.
use Rattle.std.proofs.Common.{◌≡◌, ◌<◌, ◌≤◌, ℕ, length, refl, sym, ap, subst, ◌∙◌, arith}
use Rattle.std.specs.Prelude.{Bool, true, false, ◌==◌, nat_lt, if◌then◌else◌, Option, None, Some, slice_index_or, slice_set}
use Rattle.std.proofs.lemmas.Bool.{false≢true}
use Rattle.std.proofs.lemmas.Bool.Decides.{nat_tests}
use Rattle.std.proofs.lemmas.List.{length-set}
use Rattle.std.proofs.Math.ListN.{get_or-eq_default}
use Rattle.brd_tasks.specs.declared.status.WaitReason.{WaitReason}
use Rattle.brd_tasks.specs.declared.status.Status.{Status}
use Rattle.brd_tasks.specs.declared.status.Status.TheVariants.{Dormant, Ready, Waiting, Suspended, WaitingSuspended}
use Rattle.brd_tasks.specs.declared.task.Task.{Task}
use Rattle.brd_tasks.specs.declared.task.Request.{Request}
use Rattle.brd_tasks.specs.Status.{waiting_of, is_dormant, is_ready, blocked, released, suspended, resumed}
use Rattle.brd_tasks.specs.Tasks.{TaskTable, task_at, started, processor_of, starts, placed, patched, where_there, activated, ended_by, ended, put_into, through, released_to, released_with, changed, on_processor, noted, turned}
use Rattle.brd_kernel.proofs.who_waits.ListLemmas.{if-lift, same-number, written-at}
use Rattle.brd_kernel.proofs.who_waits.StandingLemmas.{waits_by, waits}
use Rattle.brd_kernel.proofs.PricedLemmas.{priced}

-- every task waits as before
pub record IsAsBefore (t new : TaskTable) : Type 0 where
  pub long : length new.rows ≡ length t.rows
  pub same : (at : ℕ) → waits (task_at new at) ≡ waits (task_at t at)

-- one task waits so, and every other as before
pub record Makes (t new : TaskTable) (id : ℕ) (wait : Option (WaitReason × ℕ)) : Type 0 where
  pub long : length new.rows ≡ length t.rows
  pub now : (at : ℕ) → waits (task_at new at) ≡ (if id == at then wait else waits (task_at t at))

unchanged : (t : TaskTable) → IsAsBefore t t
unchanged t = record { long = refl; same = λ at. refl }

row-written : (t : TaskTable) (id at : ℕ) (task : Task) (row : Option Task) → task_at t id ≡ Some task →
    waits (slice_index_or (slice_set t.rows id row) at None) ≡ (if id == at then waits row else waits (task_at t at))
row-written t id at task row there = ap waits (written-at t.rows id at task row there) ∙ if-lift waits (id == at) row (task_at t at)

-- the row of a task is written anew
made-written : (t new : TaskTable) (id : ℕ) (task other : Task) → task_at t id ≡ Some task → new.rows ≡ slice_set t.rows id (Some other) →
    Makes t new id (waits (Some other))
made-written t new id task other there is = record {
  long = ap length is ∙ length-set t.rows id (Some other);
  now = λ at. ap (λ rows. waits (slice_index_or rows at None)) is ∙ row-written t id at task (Some other) there;
}

as-was : (here : Bool) (t : TaskTable) (id at : ℕ) (wait : Option (WaitReason × ℕ)) → (id == at) ≡ here → wait ≡ waits (task_at t id) →
    (if here then wait else waits (task_at t at)) ≡ waits (task_at t at)
as-was true t id at wait test same = same ∙ ap (λ n. waits (task_at t n)) (same-number id at test)
as-was false t id at wait test same = refl

as-before : (t new : TaskTable) (id : ℕ) (wait : Option (WaitReason × ℕ)) → wait ≡ waits (task_at t id) → Makes t new id wait → IsAsBefore t new
as-before t new id wait same made = record { long = made.long; same = λ at. made.now at ∙ as-was (id == at) t id at wait refl same }

still : (t : TaskTable) (id : ℕ) (wait : Option (WaitReason × ℕ)) → wait ≡ waits (task_at t id) → Makes t t id wait
still t id wait same = record { long = refl; now = λ at. sym (as-was (id == at) t id at wait refl same) }

-- the row is written with the same wait
as-written : (t new : TaskTable) (id : ℕ) (task other : Task) → task_at t id ≡ Some task → waits (Some other) ≡ waits (Some task) →
    new.rows ≡ slice_set t.rows id (Some other) → IsAsBefore t new
as-written t new id task other there same is =
    as-before t new id (waits (Some other)) (same ∙ ap waits (sym there)) (made-written t new id task other there is)

there-before : (t : TaskTable) (id : ℕ) (change : Task → TaskTable) (row : Option Task) → task_at t id ≡ row →
    ((task : Task) → task_at t id ≡ Some task → IsAsBefore t (change task)) → IsAsBefore t (where_there t row change)
there-before t id change None is all = unchanged t
there-before t id change (Some task) is all = all task is

there-made : (t : TaskTable) (id : ℕ) (change : Task → TaskTable) (wait : Option (WaitReason × ℕ)) (task : Task) → task_at t id ≡ Some task →
    Makes t (change task) id wait → Makes t (where_there t (task_at t id) change) id wait
there-made t id change wait task is made = subst (λ row. Makes t (where_there t row change) id wait) (sym is) made

-- no longer waits
there-freed : (t : TaskTable) (id : ℕ) (change : Task → TaskTable) (row : Option Task) → task_at t id ≡ row →
    ((task : Task) → task_at t id ≡ Some task → Makes t (change task) id None) → Makes t (where_there t row change) id None
there-freed t id change None is all = still t id None (sym (ap waits is))
there-freed t id change (Some task) is all = all task is

-- Operations that leave each wait as it is.

pub noted-before : (note : Task → Task) (t : TaskTable) (id : ℕ) → ((task : Task) → waits (Some (note task)) ≡ waits (Some task)) →
    IsAsBefore t (noted note t id)
noted-before note t id same =
    there-before t id (λ task. patched t id (note task)) (task_at t id) refl
    (λ task there. as-written t (patched t id (note task)) id task (note task) there (same task) refl)

dormant-waits : (s : Status) (priority : ℕ) → is_dormant s ≡ true → waits_by (waiting_of s) priority ≡ None
dormant-waits Dormant priority is = refl
dormant-waits Ready priority is = refl
dormant-waits (Waiting why) priority is = absurd (false≢true is)
dormant-waits Suspended priority is = refl
dormant-waits (WaitingSuspended why) priority is = absurd (false≢true is)

before-if : (test : Bool) (t one other : TaskTable) → (test ≡ true → IsAsBefore t one) → IsAsBefore t other →
    IsAsBefore t (if test then one else other)
before-if true t one other first second = first refl
before-if false t one other first second = second

pub activated-before : (t : TaskTable) (id : ℕ) (request : Request) → IsAsBefore t (activated t id request)
activated-before t id request =
    there-before t id
    (λ task. if is_dormant task.status then starts t id (processor_of request task) task else patched t id
    (record task { activation = Some request })) (task_at t id) refl
    (λ task there.
    before-if (is_dormant task.status) t (starts t id (processor_of request task) task) (patched t id (record task { activation = Some request }))
    (λ dormant. as-written t (starts t id (processor_of request task) task) id task (started (processor_of request task) task) there
    (sym (dormant-waits task.status task.priority dormant)) refl)
    (as-written t (patched t id (record task { activation = Some request })) id task (record task { activation = Some request }) there refl refl))

abbrev pub KeepsWait : Option Status → Status → Type 0
KeepsWait None s = Unit {0}
KeepsWait (Some other) s = waiting_of other ≡ waiting_of s

pub suspended-keeps : (s : Status) → KeepsWait (suspended s) s
suspended-keeps Dormant = tt
suspended-keeps Ready = refl
suspended-keeps (Waiting why) = refl
suspended-keeps Suspended = tt
suspended-keeps (WaitingSuspended why) = tt

pub resumed-keeps : (s : Status) → KeepsWait (resumed s) s
resumed-keeps Dormant = tt
resumed-keeps Ready = tt
resumed-keeps (Waiting why) = tt
resumed-keeps Suspended = refl
resumed-keeps (WaitingSuspended why) = refl

put-before : (t : TaskTable) (id : ℕ) (task : Task) (to : Option Status) → task_at t id ≡ Some task → KeepsWait to task.status →
    IsAsBefore t (put_into t id task to)
put-before t id task None there keeps = unchanged t
put-before t id task (Some status) there keeps =
    as-written t (placed t id (record task { status = status })) id task (record task { status = status }) there
    (ap (λ w. waits_by w task.priority) keeps) refl

pub through-before : (transition : Status → Option Status) (t : TaskTable) (id : ℕ) → ((s : Status) → KeepsWait (transition s) s) →
    IsAsBefore t (through transition t id)
through-before transition t id keeps =
    there-before t id (λ task. put_into t id task (transition task.status)) (task_at t id) refl
    (λ task there. put-before t id task (transition task.status) there (keeps task.status))

idle-priority : (waiting : Option WaitReason) (one other : ℕ) → waits_by waiting other ≡ None → waits_by waiting one ≡ waits_by waiting other
idle-priority None one other none = refl
idle-priority (Some why) one other none = let wrong : ⊥ = cc in absurd wrong

-- a task that doesn't wait is given another priority
pub changed-before : (t : TaskTable) (base : Task → ℕ) (id priority : ℕ) → waits (task_at t id) ≡ None →
    IsAsBefore t (changed (priced base priority) t id)
changed-before t base id priority none =
    there-before t id (λ task. placed t id (priced base priority task)) (task_at t id) refl
    (λ task there.
    as-written t (placed t id (priced base priority task)) id task (priced base priority task) there
    (idle-priority (waiting_of task.status) priority task.priority (sym (ap waits there) ∙ none)) refl)

-- a task is assigned to another processor
pub migrated-before : (t : TaskTable) (id cpu : ℕ) → IsAsBefore t (changed (on_processor cpu) t id)
migrated-before t id cpu =
    there-before t id (λ task. placed t id (on_processor cpu task)) (task_at t id) refl
    (λ task there. as-written t (placed t id (on_processor cpu task)) id task (on_processor cpu task) there refl refl)

-- a ready list is turned
pub turned-before : (t : TaskTable) (cpu priority : ℕ) → IsAsBefore t (turned t cpu priority)
turned-before t cpu priority = record { long = refl; same = λ at. refl }

-- Operations that end a wait, or begin one.

ended-by : (t : TaskTable) (id : ℕ) (task : Task) (request : Option Request) → task_at t id ≡ Some task → Makes t (ended_by t id task request) id None
ended-by t id task None there = made-written t (ended_by t id task None) id task (record task { status = Dormant; wakeup = false }) there refl
ended-by t id task (Some request) there =
    made-written t (ended_by t id task (Some request)) id task (started (processor_of request task) task) there refl

pub ended-made : (t : TaskTable) (id : ℕ) → Makes t (ended t id) id None
ended-made t id =
    there-freed t id (λ task. ended_by t id task task.activation) (task_at t id) refl (λ task there. ended-by t id task task.activation there)

abbrev Frees : Option Status → Status → Type 0
Frees None s = waiting_of s ≡ None
Frees (Some other) s = waiting_of other ≡ None

released-frees : (s : Status) → Frees (released s) s
released-frees Dormant = refl
released-frees Ready = refl
released-frees (Waiting why) = refl
released-frees Suspended = refl
released-frees (WaitingSuspended why) = refl

released-by : (t : TaskTable) (id answer : ℕ) (second : Option ℕ) (task : Task) (to : Option Status) → task_at t id ≡ Some task →
    Frees to task.status →
    Makes t (released_to t id answer second task to) id None
released-by t id answer second task None there frees = still t id None (sym (ap waits there ∙ ap (λ w. waits_by w task.priority) frees))
released-by t id answer second task (Some status) there frees =
    subst (λ w. Makes t (released_to t id answer second task (Some status)) id (waits_by w task.priority)) frees
    (made-written t (released_to t id answer second task (Some status)) id task (record task { status = status }) there refl)

pub released-made : (t : TaskTable) (id answer : ℕ) (second : Option ℕ) → Makes t (released_with t id answer second) id None
released-made t id answer second =
    there-freed t id (λ task. released_to t id answer second task (released task.status)) (task_at t id) refl
    (λ task there. released-by t id answer second task (released task.status) there (released-frees task.status))

ready-blocked : (why : WaitReason) (s : Status) → is_ready s ≡ true → blocked why s ≡ Some (Waiting why)
ready-blocked why Dormant ready = absurd (false≢true ready)
ready-blocked why Ready ready = refl
ready-blocked why (Waiting other) ready = absurd (false≢true ready)
ready-blocked why Suspended ready = absurd (false≢true ready)
ready-blocked why (WaitingSuspended other) ready = absurd (false≢true ready)

pub blocked-made : (why : WaitReason) (t : TaskTable) (id : ℕ) (task : Task) → task_at t id ≡ Some task → is_ready task.status ≡ true →
    Makes t (through (blocked why) t id) id (Some (why, task.priority))
blocked-made why t id task there ready =
    there-made t id (λ x. put_into t id x (blocked why x.status)) (Some (why, task.priority)) task there
    (subst (λ to. Makes t (put_into t id task to) id (Some (why, task.priority))) (sym (ready-blocked why task.status ready))
    (made-written t (placed t id (record task { status = Waiting why })) id task (record task { status = Waiting why }) there refl))

-- a task that waits is given another priority
pub changed-made : (t : TaskTable) (base : Task → ℕ) (id priority : ℕ) (why : WaitReason) (task : Task) → task_at t id ≡ Some task → waiting_of task.status ≡ Some why →
    Makes t (changed (priced base priority) t id) id (Some (why, priority))
changed-made t base id priority why task there waiting =
    there-made t id (λ x. placed t id (priced base priority x)) (Some (why, priority)) task there
    (subst (λ w. Makes t (placed t id (priced base priority task)) id (waits_by w priority)) waiting
    (made-written t (placed t id (priced base priority task)) id task (priced base priority task) there refl))

-- where a task is there, its ID is one of the rows'
pub row-small : (small : Bool) (t : TaskTable) (id : ℕ) (task : Task) → nat_lt id (length t.rows) ≡ small → task_at t id ≡ Some task →
    id < length t.rows
row-small true t id task test there = grind (arith, nat_tests, test)
row-small false t id task test there =
    let past : length t.rows ≤ id = grind (arith, nat_tests, test) in
    let none : task_at t id ≡ None = get_or-eq_default t.rows None past in
    let wrong : ◌≡◌ {A = Option Task} None (Some task) = sym none ∙ there in
    let no : ⊥ = cc in absurd no

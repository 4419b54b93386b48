-- What the operations of the task table make of it where the contexts in it are other ones.
use Rattle.std.proofs.Common.{◌≡◌, ℕ, Bool, true, false, List, refl, sym, ap, ◌∙◌, ◌⊎◌, inl, inr}
use Rattle.std.specs.Prelude.{zero, suc, if◌then◌else◌, [], ◌∷◌, slice_index_or, slice_set, Option, None, Some}
use Rattle.std.proofs.lemmas.Bool.{false≢true}
use Rattle.brd_exec.specs.State.{State}
use Rattle.brd_tasks.specs.declared.status.Status.{Status}
use Rattle.brd_tasks.specs.declared.status.Status.TheVariants as status
use Rattle.brd_tasks.specs.declared.task.Task.{Task}
use Rattle.brd_tasks.specs.declared.task.Request.{Request}
use Rattle.brd_tasks.specs.Status.{is_dormant, is_waiting, released}
use Rattle.brd_tasks.specs.Tasks.{TaskTable, task_at, no_context, context_at, opening_of, started, processor_of, placed, patched, where_there, starts, activated, ended_by, ended, put_into, through, answered, released_to, released_with, changed, noted}
use Rattle.brd_frames.specs.Steady.{is_waiting_task}

-- a change of all contexts, by their list
abbrev pub Contexts : Type 0
Contexts = List State → List State

-- the table with other contexts
abbrev pub t-with : Contexts → TaskTable → TaskTable
t-with f t = record t { contexts = f t.contexts }

-- a change of contexts leaves alone the one at a place: it is read as before, and written as before
pub record At (f : Contexts) (id : ℕ) : Type 0 where
  pub reads : (xs : List State) → slice_index_or (f xs) id no_context ≡ slice_index_or xs id no_context
  pub writes : (xs : List State) (s : State) → f (slice_set xs id s) ≡ slice_set (f xs) id s

-- it leaves alone each task that waits
abbrev pub Unsteady : Contexts → TaskTable → Type 0
Unsteady f t = (id : ℕ) → is_waiting_task (task_at t id) ≡ true → At f id

-- What doesn't touch contexts.

t-put : (f : Contexts) (t : TaskTable) (id : ℕ) (task : Task) (to : Option Status) →
    put_into (t-with f t) id task to ≡ t-with f (put_into t id task to)
t-put f t id task None = refl
t-put f t id task (Some to) = refl

t-through : (f : Contexts) (transition : Status → Option Status) (t : TaskTable) (id : ℕ) (row : Option Task) →
    where_there (t-with f t) row (λ task. put_into (t-with f t) id task (transition task.status))
    ≡ t-with f (where_there t row (λ task. put_into t id task (transition task.status)))
t-through f transition t id None = refl
t-through f transition t id (Some task) = t-put f t id task (transition task.status)

pub through-with : (f : Contexts) (transition : Status → Option Status) (t : TaskTable) (id : ℕ) →
    through transition (t-with f t) id ≡ t-with f (through transition t id)
through-with f transition t id = t-through f transition t id (task_at t id)

t-changed : (f : Contexts) (change : Task → Task) (t : TaskTable) (id : ℕ) (row : Option Task) →
    where_there (t-with f t) row (λ task. placed (t-with f t) id (change task))
    ≡ t-with f (where_there t row (λ task. placed t id (change task)))
t-changed f change t id None = refl
t-changed f change t id (Some task) = refl

pub changed-with : (f : Contexts) (change : Task → Task) (t : TaskTable) (id : ℕ) →
    changed change (t-with f t) id ≡ t-with f (changed change t id)
changed-with f change t id = t-changed f change t id (task_at t id)

t-noted : (f : Contexts) (note : Task → Task) (t : TaskTable) (id : ℕ) (row : Option Task) →
    where_there (t-with f t) row (λ task. patched (t-with f t) id (note task))
    ≡ t-with f (where_there t row (λ task. patched t id (note task)))
t-noted f note t id None = refl
t-noted f note t id (Some task) = refl

pub noted-with : (f : Contexts) (note : Task → Task) (t : TaskTable) (id : ℕ) →
    noted note (t-with f t) id ≡ t-with f (noted note t id)
noted-with f note t id = t-noted f note t id (task_at t id)

-- Starts, ends and releases.

starts-with : (f : Contexts) (t : TaskTable) (id cpu : ℕ) (task : Task) → At f id →
    starts (t-with f t) id cpu task ≡ t-with f (starts t id cpu task)
starts-with f t id cpu task at =
    ap (λ contexts. record (placed t id (started cpu task)) { contexts = contexts })
    (sym (at.writes t.contexts (opening_of task.setup)))

abbrev activated_by : TaskTable → ℕ → Request → Task → TaskTable
activated_by t id request task =
    if is_dormant task.status then starts t id (processor_of request task) task
    else patched t id (record task { activation = Some request })

t-activated-if : (f : Contexts) (t : TaskTable) (id : ℕ) (request : Request) (task : Task) (dormant : Bool) →
    (dormant ≡ true → At f id) →
    (if dormant then starts (t-with f t) id (processor_of request task) task
    else patched (t-with f t) id (record task { activation = Some request }))
    ≡ t-with f (if dormant then starts t id (processor_of request task) task
    else patched t id (record task { activation = Some request }))
t-activated-if f t id request task true at = starts-with f t id (processor_of request task) task (at refl)
t-activated-if f t id request task false at = refl

-- a task is dormant, and contexts may be changed only if its own is left alone
abbrev pub Started : Contexts → TaskTable → ℕ → Type 0
Started f t id = (task : Task) → task_at t id ≡ Some task → is_dormant task.status ≡ true → At f id

t-activated : (f : Contexts) (t : TaskTable) (id : ℕ) (request : Request) (row : Option Task) →
    ((task : Task) → row ≡ Some task → is_dormant task.status ≡ true → At f id) →
    where_there (t-with f t) row (activated_by (t-with f t) id request) ≡ t-with f (where_there t row (activated_by t id request))
t-activated f t id request None at = refl
t-activated f t id request (Some task) at = t-activated-if f t id request task (is_dormant task.status) (at task refl)

pub activated-with : (f : Contexts) (t : TaskTable) (id : ℕ) (request : Request) → Started f t id →
    activated (t-with f t) id request ≡ t-with f (activated t id request)
activated-with f t id request at = t-activated f t id request (task_at t id) at

t-ended-by : (f : Contexts) (t : TaskTable) (id : ℕ) (task : Task) (queued : Option Request) →
    ((request : Request) → queued ≡ Some request → At f id) →
    ended_by (t-with f t) id task queued ≡ t-with f (ended_by t id task queued)
t-ended-by f t id task None at = refl
t-ended-by f t id task (Some request) at = starts-with f t id (processor_of request task) task (at request refl)

-- a start of a task is queued, and contexts may be changed only if that one is left alone
abbrev pub Restarted : Contexts → TaskTable → ℕ → Type 0
Restarted f t id = (task : Task) (request : Request) → task_at t id ≡ Some task → task.activation ≡ Some request → At f id

t-ended : (f : Contexts) (t : TaskTable) (id : ℕ) (row : Option Task) →
    ((task : Task) (request : Request) → row ≡ Some task → task.activation ≡ Some request → At f id) →
    where_there (t-with f t) row (λ task. ended_by (t-with f t) id task task.activation)
    ≡ t-with f (where_there t row (λ task. ended_by t id task task.activation))
t-ended f t id None at = refl
t-ended f t id (Some task) at = t-ended-by f t id task task.activation (λ request is. at task request refl is)

pub ended-with : (f : Contexts) (t : TaskTable) (id : ℕ) → Restarted f t id → ended (t-with f t) id ≡ t-with f (ended t id)
ended-with f t id at = t-ended f t id (task_at t id) at

t-released-to : (f : Contexts) (t : TaskTable) (id answer : ℕ) (second : Option ℕ) (task : Task) (to : Option Status) →
    ((s : Status) → to ≡ Some s → At f id) →
    released_to (t-with f t) id answer second task to ≡ t-with f (released_to t id answer second task to)
t-released-to f t id answer second task None at = refl
t-released-to f t id answer second task (Some to) at =
    let new : TaskTable = placed t id (record task { status = to }) in
    let here : At f id = at to refl in
    ap (λ s. record new { contexts = slice_set (f t.contexts) id (answered s answer second) }) (here.reads t.contexts)
    ∙ ap (λ contexts. record new { contexts = contexts }) (sym (here.writes t.contexts (answered (context_at t id) answer second)))

released-waits : (s to : Status) → released s ≡ Some to → is_waiting s ≡ true
released-waits status.Dormant to is = let wrong : ⊥ = cc in absurd wrong
released-waits status.Ready to is = let wrong : ⊥ = cc in absurd wrong
released-waits (status.Waiting reason) to is = refl
released-waits status.Suspended to is = let wrong : ⊥ = cc in absurd wrong
released-waits (status.WaitingSuspended reason) to is = refl

t-released : (f : Contexts) (t : TaskTable) (id answer : ℕ) (second : Option ℕ) (row : Option Task) →
    (is_waiting_task row ≡ true → At f id) →
    where_there (t-with f t) row (λ task. released_to (t-with f t) id answer second task (released task.status))
    ≡ t-with f (where_there t row (λ task. released_to t id answer second task (released task.status)))
t-released f t id answer second None at = refl
t-released f t id answer second (Some task) at =
    t-released-to f t id answer second task (released task.status) (λ to is. at (released-waits task.status to is))

pub released-at-with : (f : Contexts) (t : TaskTable) (id answer : ℕ) (second : Option ℕ) → At f id →
    released_with (t-with f t) id answer second ≡ t-with f (released_with t id answer second)
released-at-with f t id answer second at = t-released f t id answer second (task_at t id) (λ waits. at)

pub released-with : (f : Contexts) (t : TaskTable) (id answer : ℕ) (second : Option ℕ) → Unsteady f t →
    released_with (t-with f t) id answer second ≡ t-with f (released_with t id answer second)
released-with f t id answer second free = t-released f t id answer second (task_at t id) (free id)

-- Whoever is released waits no more, and the others are as they were.

pub set-either : {X : Type 0} (xs : List X) (i j : ℕ) (x d : X) →
    (slice_index_or (slice_set xs i x) j d ≡ x) ⊎ (slice_index_or (slice_set xs i x) j d ≡ slice_index_or xs j d)
set-either [] i j x d = inr refl
set-either (y ∷ ys) zero zero x d = inl refl
set-either (y ∷ ys) zero (suc j) x d = inr refl
set-either (y ∷ ys) (suc i) zero x d = inr refl
set-either (y ∷ ys) (suc i) (suc j) x d = set-either ys i j x d

released-rests : (s to : Status) → released s ≡ Some to → is_waiting to ≡ false
released-rests status.Dormant to is = let wrong : ⊥ = cc in absurd wrong
released-rests status.Ready to is = let wrong : ⊥ = cc in absurd wrong
released-rests (status.Waiting reason) to is = let same : status.Ready ≡ to = cc in ap is_waiting (sym same)
released-rests status.Suspended to is = let wrong : ⊥ = cc in absurd wrong
released-rests (status.WaitingSuspended reason) to is = let same : status.Suspended ≡ to = cc in ap is_waiting (sym same)

waiting-set : (rows : List (Option Task)) (id other : ℕ) (task : Task) → is_waiting task.status ≡ false →
    is_waiting_task (slice_index_or (slice_set rows id (Some task)) other None) ≡ true →
    is_waiting_task (slice_index_or rows other None) ≡ true
waiting-set rows id other task rests is = elim (set-either rows id other (Some task) None) [
  | inl new ↦ absurd (false≢true (sym rests ∙ sym (ap is_waiting_task new) ∙ is))
  | inr old ↦ sym (ap is_waiting_task old) ∙ is
]

released-to-unsteady : (t : TaskTable) (id answer other : ℕ) (second : Option ℕ) (task : Task) (to : Option Status) →
    ((s : Status) → to ≡ Some s → is_waiting s ≡ false) →
    is_waiting_task (task_at (released_to t id answer second task to) other) ≡ true → is_waiting_task (task_at t other) ≡ true
released-to-unsteady t id answer other second task None rests is = is
released-to-unsteady t id answer other second task (Some to) rests is =
    waiting-set t.rows id other (record task { status = to }) (rests to refl) is

released-row-unsteady : (t : TaskTable) (id answer other : ℕ) (second : Option ℕ) (row : Option Task) →
    is_waiting_task (task_at (where_there t row (λ task. released_to t id answer second task (released task.status))) other) ≡ true →
    is_waiting_task (task_at t other) ≡ true
released-row-unsteady t id answer other second None is = is
released-row-unsteady t id answer other second (Some task) is =
    released-to-unsteady t id answer other second task (released task.status) (λ to so. released-rests task.status to so) is

pub released-free : (f : Contexts) (t : TaskTable) (id answer : ℕ) (second : Option ℕ) → Unsteady f t →
    Unsteady f (released_with t id answer second)
released-free f t id answer second free =
    λ other is. free other (released-row-unsteady t id answer other second (task_at t id) is)

-- What is noted of a task leaves what it waits for.

row-unsteady : (rows : List (Option Task)) (id other : ℕ) (old new : Task) → slice_index_or rows id None ≡ Some old → new.status ≡ old.status →
    is_waiting_task (slice_index_or (slice_set rows id (Some new)) other None) ≡ true →
    is_waiting_task (slice_index_or rows other None) ≡ true
row-unsteady [] id other old new there same is = is
row-unsteady (x ∷ xs) zero zero old new there same is = ap is_waiting_task there ∙ ap is_waiting (sym same) ∙ is
row-unsteady (x ∷ xs) zero (suc other) old new there same is = is
row-unsteady (x ∷ xs) (suc id) zero old new there same is = is
row-unsteady (x ∷ xs) (suc id) (suc other) old new there same is = row-unsteady xs id other old new there same is

noted-row-free : (f : Contexts) (note : Task → Task) (t : TaskTable) (id : ℕ) (row : Option Task) → task_at t id ≡ row → Unsteady f t →
    ((task : Task) → (note task).status ≡ task.status) → Unsteady f (where_there t row (λ task. patched t id (note task)))
noted-row-free f note t id None there free keeps = free
noted-row-free f note t id (Some task) there free keeps =
    λ other is. free other (row-unsteady t.rows id other task (note task) there (keeps task) is)

pub noted-free : (f : Contexts) (note : Task → Task) (t : TaskTable) (id : ℕ) → Unsteady f t →
    ((task : Task) → (note task).status ≡ task.status) → Unsteady f (noted note t id)
noted-free f note t id free keeps = noted-row-free f note t id (task_at t id) refl free keeps

-- Whoever is released has the same start queued.

abbrev pub queued_in : Option Task → Option Request
queued_in None = None
queued_in (Some task) = task.activation

row-queued : (rows : List (Option Task)) (id other : ℕ) (old new : Task) → slice_index_or rows id None ≡ Some old →
    new.activation ≡ old.activation → queued_in (slice_index_or (slice_set rows id (Some new)) other None) ≡ queued_in (slice_index_or rows other None)
row-queued [] id other old new there same = refl
row-queued (x ∷ xs) zero zero old new there same = same ∙ sym (ap queued_in there)
row-queued (x ∷ xs) zero (suc other) old new there same = refl
row-queued (x ∷ xs) (suc id) zero old new there same = refl
row-queued (x ∷ xs) (suc id) (suc other) old new there same = row-queued xs id other old new there same

to-queued : (t : TaskTable) (id answer other : ℕ) (second : Option ℕ) (task : Task) (to : Option Status) → task_at t id ≡ Some task →
    queued_in (task_at (released_to t id answer second task to) other) ≡ queued_in (task_at t other)
to-queued t id answer other second task None there = refl
to-queued t id answer other second task (Some to) there = row-queued t.rows id other task (record task { status = to }) there refl

released-row-queued : (t : TaskTable) (id answer other : ℕ) (second : Option ℕ) (row : Option Task) → task_at t id ≡ row →
    queued_in (task_at (where_there t row (λ task. released_to t id answer second task (released task.status))) other) ≡ queued_in (task_at t other)
released-row-queued t id answer other second None there = refl
released-row-queued t id answer other second (Some task) there = to-queued t id answer other second task (released task.status) there

pub released-queued : (t : TaskTable) (id answer other : ℕ) (second : Option ℕ) →
    queued_in (task_at (released_with t id answer second) other) ≡ queued_in (task_at t other)
released-queued t id answer other second = released-row-queued t id answer other second (task_at t id) refl

queued-again : (f : Contexts) (id : ℕ) (row : Option Task) (request : Request) → queued_in row ≡ Some request →
    ((task : Task) (request : Request) → row ≡ Some task → task.activation ≡ Some request → At f id) → At f id
queued-again f id None request is again = let wrong : ⊥ = cc in absurd wrong
queued-again f id (Some task) request is again = again task request refl is

pub restarted-still : (f : Contexts) (t new : TaskTable) (id : ℕ) → queued_in (task_at new id) ≡ queued_in (task_at t id) → Restarted f t id →
    Restarted f new id
restarted-still f t new id same again = λ task request there queued.
    queued-again f id (task_at t id) request (sym same ∙ ap queued_in there ∙ queued) again

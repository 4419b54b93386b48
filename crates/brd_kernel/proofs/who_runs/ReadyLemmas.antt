-- What each operation on a task makes of who is ready.
use Rattle.std.proofs.Common.{◌≡◌, ◌<◌, ℕ, zero, suc, List, [], ◌∷◌, refl, sym, ap, subst, ◌∙◌}
use Rattle.std.specs.Prelude.{Bool, true, false, not, ◌==◌, ◌&&◌, find, unwrap_or, if◌then◌else◌, Option, None, Some, IsSome, slice_index_or, slice_set}
use Rattle.std.proofs.lemmas.Bool.{false≢true}
use Rattle.brd_exec.specs.State.{State}
use Rattle.brd_queue.specs.Queue.{Plain, has, behind_equals, without, moved_behind, rotated, AreApart}
use Rattle.brd_queue.specs.declared.entry.QueueOrder.TheVariants.{Priority}
use Rattle.brd_queue.proofs.QueueLemmas.{apart-without, apart-behind_equals}
use Rattle.brd_queue.proofs.PriorityLemmas.{priority_in-rotated, ordered-rotated}
use Rattle.brd_tasks.specs.declared.status.WaitReason.{WaitReason}
use Rattle.brd_tasks.specs.declared.status.Status.{Status}
use Rattle.brd_tasks.specs.declared.status.Status.TheVariants.{Dormant, Ready, Waiting, Suspended, WaitingSuspended}
use Rattle.brd_tasks.specs.declared.task.Task.{Task}
use Rattle.brd_tasks.specs.declared.task.Request.{Request}
use Rattle.brd_tasks.specs.declared.task.Request.TheVariants.{Assigned, On}
use Rattle.brd_tasks.specs.Status.{is_dormant, is_ready, blocked, released, suspended, resumed}
use Rattle.brd_tasks.specs.Tasks.{TaskTable, task_at, ready_on, left, started, opening_of, processor_of, starts, placed, patched, with_context, where_there, activated, ended_by, ended, put_into, through, answered, context_at, released_to, released_with, changed, on_processor, noted, with_wakeup, without_activation, turned}
use Rattle.brd_tasks.specs.Ready.{IsProcessor, IsRequest, IsQueued, IsTask, IsRow, ready_priority}
use Rattle.brd_tasks.proofs.Consistency.{known_small, left-new, consistent-context, consistent-placed, consistent-patched, consistent-turned}
use Rattle.brd_kernel.specs.Running.{is_ready_on, IsOrderly}
use Rattle.brd_kernel.proofs.who_waits.ListLemmas.{written-at, same-number, apart-placed}
use Rattle.brd_kernel.proofs.PricedLemmas.{priced}

-- The tasks stay consistent, and each that is ready on a processor stays so.
pub record KeepsReady (t new : TaskTable) : Type 0 where
  pub orderly : IsOrderly new
  pub ready : (at cpu : ℕ) → is_ready_on (task_at t at) cpu ≡ true → is_ready_on (task_at new at) cpu ≡ true

-- the same of all but one
pub record KeepsOthers (t new : TaskTable) (id : ℕ) : Type 0 where
  pub orderly : IsOrderly new
  pub ready : (at cpu : ℕ) → (id == at) ≡ false → is_ready_on (task_at t at) cpu ≡ true → is_ready_on (task_at new at) cpu ≡ true

pub all-keep : (t : TaskTable) → IsOrderly t → KeepsReady t t
all-keep t was = record { orderly = was; ready = λ at cpu is. is }

pub but-one : (t new : TaskTable) (id : ℕ) → KeepsReady t new → KeepsOthers t new id
but-one t new id all = record { orderly = all.orderly; ready = λ at cpu other. all.ready at cpu }

-- a table of which one row was written
abbrev Wrote : TaskTable → TaskTable → ℕ → Task → Type 0
Wrote t new id other = (at : ℕ) → task_at new at ≡ (if id == at then Some other else task_at t at)

others-ready : (here : Bool) (t : TaskTable) (id at cpu : ℕ) (other : Task) (row : Option Task) → (id == at) ≡ here → here ≡ false →
    row ≡ (if here then Some other else task_at t at) → is_ready_on (task_at t at) cpu ≡ true → is_ready_on row cpu ≡ true
others-ready true t id at cpu other row test away now is = absurd (false≢true (sym away))
others-ready false t id at cpu other row test away now is = ap (λ r. is_ready_on r cpu) now ∙ is

wrote-others : (t new : TaskTable) (id : ℕ) (other : Task) → IsOrderly new → Wrote t new id other → KeepsOthers t new id
wrote-others t new id other good wrote = record {
  orderly = good;
  ready = λ at cpu away. others-ready (id == at) t id at cpu other (task_at new at) refl away (wrote at);
}

-- whoever was ready is so by the new row too
abbrev StaysReady : Task → Task → Type 0
StaysReady task other = (cpu : ℕ) → is_ready_on (Some task) cpu ≡ true → is_ready_on (Some other) cpu ≡ true

each-ready : (here : Bool) (t : TaskTable) (id at cpu : ℕ) (task other : Task) (row : Option Task) → (id == at) ≡ here → task_at t id ≡ Some task →
    StaysReady task other → row ≡ (if here then Some other else task_at t at) → is_ready_on (task_at t at) cpu ≡ true →
    is_ready_on row cpu ≡ true
each-ready true t id at cpu task other row test there stays now is =
    ap (λ r. is_ready_on r cpu) now
    ∙ stays cpu (ap (λ r. is_ready_on r cpu) (sym there) ∙ ap (λ n. is_ready_on (task_at t n) cpu) (same-number id at test) ∙ is)
each-ready false t id at cpu task other row test there stays now is = ap (λ r. is_ready_on r cpu) now ∙ is

wrote-all : (t new : TaskTable) (id : ℕ) (task other : Task) → task_at t id ≡ Some task → StaysReady task other → IsOrderly new →
    Wrote t new id other → KeepsReady t new
wrote-all t new id task other there stays good wrote = record {
  orderly = good;
  ready = λ at cpu. each-ready (id == at) t id at cpu task other (task_at new at) refl there stays (wrote at);
}

-- The three ways in which a row is written.

row-of : (t : TaskTable) (id : ℕ) (task : Task) → IsOrderly t → task_at t id ≡ Some task → IsTask task
row-of t id task was there = subst IsRow there (was.consistent.each id)

either-set : (P : List Plain → Type 0) (ready : List (List Plain)) (i cpu : ℕ) (xs : List Plain) → P xs → P (slice_index_or ready cpu []) →
    P (slice_index_or (slice_set ready i xs) cpu [])
either-set P [] i cpu xs one was = was
either-set P (r ∷ rs) zero zero xs one was = one
either-set P (r ∷ rs) zero (suc cpu) xs one was = was
either-set P (r ∷ rs) (suc i) zero xs one was = was
either-set P (r ∷ rs) (suc i) (suc cpu) xs one was = either-set P rs i cpu xs one was

left-by : (ready : Bool) (id at cpu : ℕ) (lists : List (List Plain)) → ((other : ℕ) → AreApart (slice_index_or lists other [])) →
    AreApart (slice_index_or (if ready then slice_set lists at (without id (slice_index_or lists at [])) else lists) cpu [])
left-by true id at cpu lists once =
    either-set AreApart lists at cpu (without id (slice_index_or lists at [])) (apart-without id (slice_index_or lists at []) (once at)) (once cpu)
left-by false id at cpu lists once = once cpu

left-once : (id cpu : ℕ) (row : Option Task) (lists : List (List Plain)) → ((other : ℕ) → AreApart (slice_index_or lists other [])) →
    AreApart (slice_index_or (left id row lists) cpu [])
left-once id cpu None lists once = once cpu
left-once id cpu (Some task) lists once = left-by (is_ready task.status) id task.cpu cpu lists once

entered-by : (ready : Bool) (e : Plain) (at cpu : ℕ) (lists : List (List Plain)) → e.id < 256 → has e.id (slice_index_or lists at []) ≡ false →
    ((other : ℕ) → AreApart (slice_index_or lists other [])) →
    AreApart (slice_index_or (if ready then slice_set lists at (behind_equals e (slice_index_or lists at [])) else lists) cpu [])
entered-by true e at cpu lists small new once =
    either-set AreApart lists at cpu (behind_equals e (slice_index_or lists at []))
    (apart-behind_equals e (slice_index_or lists at []) small new (once at)) (once cpu)
entered-by false e at cpu lists small new once = once cpu

place : (t : TaskTable) (id : ℕ) (task other : Task) → IsOrderly t → task_at t id ≡ Some task → IsTask other → IsOrderly (placed t id other)
place t id task other was there good =
    let small : id < 256 = known_small t id (Some task) was.consistent (sym there) refl in
    record {
      consistent = consistent-placed t id other was.consistent small (subst IsSome (sym there) refl) good;
      once = λ cpu. entered-by (is_ready other.status) (record { id = id; priority = other.priority; wanted = tt }) other.cpu cpu
          (left id (task_at t id) t.ready) small (left-new t id other.cpu was.consistent)
          (λ at. left-once id at (task_at t id) t.ready was.once);
    }

patch : (t : TaskTable) (id : ℕ) (task other : Task) → IsOrderly t → task_at t id ≡ Some task → IsTask other →
    ((cpu : ℕ) → ready_priority (Some other) cpu ≡ ready_priority (Some task) cpu) → IsOrderly (patched t id other)
patch t id task other was there good same = record {
  consistent = consistent-patched t id other was.consistent (known_small t id (Some task) was.consistent (sym there) refl)
      (subst IsSome (sym there) refl) good (λ cpu. same cpu ∙ ap (λ row. ready_priority row cpu) (sym there));
  once = was.once;
}

pub context-orderly : (t : TaskTable) (id : ℕ) (s : State) → IsOrderly t → IsOrderly (with_context t id s)
context-orderly t id s was = record {
  consistent = consistent-context t id s was.consistent;
  once = was.once;
}

wrote-row : (t : TaskTable) (id : ℕ) (task other : Task) → task_at t id ≡ Some task → Wrote t (patched t id other) id other
wrote-row t id task other there at = written-at t.rows id at task (Some other) there

-- Where there is no task, nothing happens.

there-keeps : (t : TaskTable) (id : ℕ) (change : Task → TaskTable) (row : Option Task) → IsOrderly t → task_at t id ≡ row →
    ((task : Task) → task_at t id ≡ Some task → KeepsReady t (change task)) → KeepsReady t (where_there t row change)
there-keeps t id change None was is all = all-keep t was
there-keeps t id change (Some task) was is all = all task is

there-others : (t : TaskTable) (id : ℕ) (change : Task → TaskTable) (row : Option Task) → IsOrderly t → task_at t id ≡ row →
    ((task : Task) → task_at t id ≡ Some task → KeepsOthers t (change task) id) → KeepsOthers t (where_there t row change) id
there-others t id change None was is all = but-one t t id (all-keep t was)
there-others t id change (Some task) was is all = all task is

-- Tasks that start, end or are noted.

started-good : (cpu : ℕ) (task : Task) → IsProcessor cpu → IsTask (started cpu task)
started-good cpu task good = record { processor = good; queued = tt; idle = λ dormant. absurd (false≢true dormant) }

processor-of : (request : Request) (task : Task) → IsRequest request → IsTask task → IsProcessor (processor_of request task)
processor-of Assigned task good was = was.processor
processor-of (On cpu) task good was = good

starts-orderly : (t : TaskTable) (id cpu : ℕ) (task : Task) → IsOrderly t → task_at t id ≡ Some task → IsProcessor cpu →
    IsOrderly (starts t id cpu task)
starts-orderly t id cpu task was there good =
    context-orderly (placed t id (started cpu task)) id (opening_of task.setup)
    (place t id task (started cpu task) was there (started-good cpu task good))

-- a task that isn't ready stays as ready as it was, whatever becomes of it
dormant-stays : (task other : Task) (s : Status) → task.status ≡ s → is_dormant s ≡ true → StaysReady task other
dormant-stays task other Dormant is dormant cpu ready =
    absurd (false≢true (ap (λ x. is_ready x && task.cpu == cpu) (sym is) ∙ ready))
dormant-stays task other Ready is dormant cpu ready = absurd (false≢true dormant)
dormant-stays task other (Waiting why) is dormant cpu ready = absurd (false≢true dormant)
dormant-stays task other Suspended is dormant cpu ready = absurd (false≢true dormant)
dormant-stays task other (WaitingSuspended why) is dormant cpu ready = absurd (false≢true dormant)

queued-good : (task : Task) (request : Request) → IsTask task → IsRequest request → is_dormant task.status ≡ false →
    IsTask (record task { activation = Some request })
queued-good task request was good active = record {
  processor = was.processor;
  queued = good;
  idle = λ dormant. absurd (false≢true (sym active ∙ dormant));
}

keeps-if : (test : Bool) (t one other : TaskTable) → (test ≡ true → KeepsReady t one) → (test ≡ false → KeepsReady t other) →
    KeepsReady t (if test then one else other)
keeps-if true t one other first second = first refl
keeps-if false t one other first second = second refl

pub activated-keeps : (t : TaskTable) (id : ℕ) (request : Request) → IsOrderly t → IsRequest request → KeepsReady t (activated t id request)
activated-keeps t id request was good =
    there-keeps t id
    (λ task. if is_dormant task.status then starts t id (processor_of request task) task else patched t id
    (record task { activation = Some request })) (task_at t id) was refl
    (λ task there.
    let cpu : ℕ = processor_of request task in
    keeps-if (is_dormant task.status) t (starts t id cpu task) (patched t id (record task { activation = Some request }))
    (λ dormant. wrote-all t (starts t id cpu task) id task (started cpu task) there
    (dormant-stays task (started cpu task) task.status refl dormant)
    (starts-orderly t id cpu task was there (processor-of request task good (row-of t id task was there)))
    (wrote-row t id task (started cpu task) there))
    (λ active. wrote-all t (patched t id (record task { activation = Some request })) id task (record task { activation = Some request }) there
    (λ cpu ready. ready)
    (patch t id task (record task { activation = Some request }) was there (queued-good task request (row-of t id task was there) good active)
    (λ cpu. refl))
    (wrote-row t id task (record task { activation = Some request }) there)))

idle-good : (task : Task) → IsTask task → task.activation ≡ None → IsTask (record task { status = Dormant; wakeup = false })
idle-good task was none = record { processor = was.processor; queued = was.queued; idle = λ dormant. (none, refl) }

ended-by : (t : TaskTable) (id : ℕ) (task : Task) (request : Option Request) → IsOrderly t → task_at t id ≡ Some task →
    task.activation ≡ request → KeepsOthers t (ended_by t id task request) id
ended-by t id task None was there is =
    wrote-others t (ended_by t id task None) id (record task { status = Dormant; wakeup = false })
    (place t id task (record task { status = Dormant; wakeup = false }) was there (idle-good task (row-of t id task was there) is))
    (wrote-row t id task (record task { status = Dormant; wakeup = false }) there)
ended-by t id task (Some request) was there is =
    let good : IsTask task = row-of t id task was there in
    wrote-others t (ended_by t id task (Some request)) id (started (processor_of request task) task)
    (starts-orderly t id (processor_of request task) task was there (processor-of request task (subst IsQueued is good.queued) good))
    (wrote-row t id task (started (processor_of request task) task) there)

pub ended-others : (t : TaskTable) (id : ℕ) → IsOrderly t → KeepsOthers t (ended t id) id
ended-others t id was =
    there-others t id (λ task. ended_by t id task task.activation) (task_at t id) was refl
    (λ task there. ended-by t id task task.activation was there refl)

woken-by : (queued dormant : Bool) → dormant ≡ true → (queued && not dormant) ≡ false
woken-by true true is = refl
woken-by false true is = refl
woken-by queued false is = absurd (false≢true is)

wakeup-good : (queued : Bool) (task : Task) → IsTask task → IsTask (with_wakeup queued task)
wakeup-good queued task was = record {
  processor = was.processor;
  queued = was.queued;
  idle = λ dormant. ((was.idle dormant).0, woken-by queued (is_dormant task.status) dormant);
}

pub wakeup-keeps : (queued : Bool) (t : TaskTable) (id : ℕ) → IsOrderly t → KeepsReady t (noted (with_wakeup queued) t id)
wakeup-keeps queued t id was =
    there-keeps t id (λ task. patched t id (with_wakeup queued task)) (task_at t id) was refl
    (λ task there. wrote-all t (patched t id (with_wakeup queued task)) id task (with_wakeup queued task) there (λ cpu ready. ready)
    (patch t id task (with_wakeup queued task) was there (wakeup-good queued task (row-of t id task was there)) (λ cpu. refl))
    (wrote-row t id task (with_wakeup queued task) there))

cleared-good : (task : Task) → IsTask task → IsTask (without_activation task)
cleared-good task was = record { processor = was.processor; queued = tt; idle = λ dormant. (refl, (was.idle dormant).1) }

pub cleared-keeps : (t : TaskTable) (id : ℕ) → IsOrderly t → KeepsReady t (noted without_activation t id)
cleared-keeps t id was =
    there-keeps t id (λ task. patched t id (without_activation task)) (task_at t id) was refl
    (λ task there. wrote-all t (patched t id (without_activation task)) id task (without_activation task) there (λ cpu ready. ready)
    (patch t id task (without_activation task) was there (cleared-good task (row-of t id task was there)) (λ cpu. refl))
    (wrote-row t id task (without_activation task) there))

-- Transitions: none of them ends a task.

abbrev IsActive : Option Status → Type 0
IsActive None = Unit {0}
IsActive (Some s) = is_dormant s ≡ false

pub blocked-active : (why : WaitReason) (s : Status) → IsActive (blocked why s)
blocked-active why Dormant = tt
blocked-active why Ready = refl
blocked-active why (Waiting other) = tt
blocked-active why Suspended = tt
blocked-active why (WaitingSuspended other) = tt

pub suspended-active : (s : Status) → IsActive (suspended s)
suspended-active Dormant = tt
suspended-active Ready = refl
suspended-active (Waiting why) = refl
suspended-active Suspended = tt
suspended-active (WaitingSuspended why) = tt

moved-good : (task : Task) (s : Status) → IsTask task → is_dormant s ≡ false → IsTask (record task { status = s })
moved-good task s was active = record {
  processor = was.processor;
  queued = was.queued;
  idle = λ dormant. absurd (false≢true (sym active ∙ dormant));
}

put-others : (t : TaskTable) (id : ℕ) (task : Task) (to : Option Status) → IsOrderly t → task_at t id ≡ Some task → IsActive to →
    KeepsOthers t (put_into t id task to) id
put-others t id task None was there active = but-one t t id (all-keep t was)
put-others t id task (Some s) was there active =
    wrote-others t (placed t id (record task { status = s })) id (record task { status = s })
    (place t id task (record task { status = s }) was there (moved-good task s (row-of t id task was there) active))
    (wrote-row t id task (record task { status = s }) there)

pub through-others : (transition : Status → Option Status) (t : TaskTable) (id : ℕ) → IsOrderly t → ((s : Status) → IsActive (transition s)) →
    KeepsOthers t (through transition t id) id
through-others transition t id was active =
    there-others t id (λ task. put_into t id task (transition task.status)) (task_at t id) was refl
    (λ task there. put-others t id task (transition task.status) was there (active task.status))

-- A transition out of a state that isn't ready.

abbrev WasIdle : Option Status → Status → Type 0
WasIdle None s = Unit {0}
WasIdle (Some other) s = (is_ready s ≡ false) × (is_dormant other ≡ false)

resumed-idle : (s : Status) → WasIdle (resumed s) s
resumed-idle Dormant = tt
resumed-idle Ready = tt
resumed-idle (Waiting why) = tt
resumed-idle Suspended = (refl, refl)
resumed-idle (WaitingSuspended why) = (refl, refl)

released-idle : (s : Status) → WasIdle (released s) s
released-idle Dormant = tt
released-idle Ready = tt
released-idle (Waiting why) = (refl, refl)
released-idle Suspended = tt
released-idle (WaitingSuspended why) = (refl, refl)

idle-stays : (task other : Task) → is_ready task.status ≡ false → StaysReady task other
idle-stays task other idle cpu ready = absurd (false≢true (sym (ap (λ r. r && task.cpu == cpu) idle) ∙ ready))

put-keeps : (t : TaskTable) (id : ℕ) (task : Task) (to : Option Status) → IsOrderly t → task_at t id ≡ Some task → WasIdle to task.status →
    KeepsReady t (put_into t id task to)
put-keeps t id task None was there idle = all-keep t was
put-keeps t id task (Some s) was there idle =
    wrote-all t (placed t id (record task { status = s })) id task (record task { status = s }) there
    (idle-stays task (record task { status = s }) idle.0)
    (place t id task (record task { status = s }) was there (moved-good task s (row-of t id task was there) idle.1))
    (wrote-row t id task (record task { status = s }) there)

pub resumed-keeps : (t : TaskTable) (id : ℕ) → IsOrderly t → KeepsReady t (through resumed t id)
resumed-keeps t id was =
    there-keeps t id (λ task. put_into t id task (resumed task.status)) (task_at t id) was refl
    (λ task there. put-keeps t id task (resumed task.status) was there (resumed-idle task.status))

released-by : (t : TaskTable) (id answer : ℕ) (second : Option ℕ) (task : Task) (to : Option Status) → IsOrderly t → task_at t id ≡ Some task →
    WasIdle to task.status → KeepsReady t (released_to t id answer second task to)
released-by t id answer second task None was there idle = all-keep t was
released-by t id answer second task (Some s) was there idle =
    let keeps : KeepsReady t (placed t id (record task { status = s })) = put-keeps t id task (Some s) was there idle in
    record {
      orderly = context-orderly (placed t id (record task { status = s })) id (answered (context_at t id) answer second) keeps.orderly;
      ready = keeps.ready;
    }

pub released-keeps : (t : TaskTable) (id answer : ℕ) (second : Option ℕ) → IsOrderly t → KeepsReady t (released_with t id answer second)
released-keeps t id answer second was =
    there-keeps t id (λ task. released_to t id answer second task (released task.status)) (task_at t id) was refl
    (λ task there. released-by t id answer second task (released task.status) was there (released-idle task.status))

-- Priorities, processors and turns.

priority-good : (task : Task) (base : Task → ℕ) (priority : ℕ) → IsTask task → IsTask (priced base priority task)
priority-good task base priority was = record { processor = was.processor; queued = was.queued; idle = was.idle }

pub priority-keeps : (t : TaskTable) (base : Task → ℕ) (id priority : ℕ) → IsOrderly t → KeepsReady t (changed (priced base priority) t id)
priority-keeps t base id priority was =
    there-keeps t id (λ task. placed t id (priced base priority task)) (task_at t id) was refl
    (λ task there. wrote-all t (placed t id (priced base priority task)) id task (priced base priority task) there (λ cpu ready. ready)
    (place t id task (priced base priority task) was there (priority-good task base priority (row-of t id task was there)))
    (wrote-row t id task (priced base priority task) there))

migrated-good : (task : Task) (cpu : ℕ) → IsTask task → IsProcessor cpu → IsTask (on_processor cpu task)
migrated-good task cpu was good = record { processor = good; queued = was.queued; idle = was.idle }

pub migrated-others : (t : TaskTable) (id cpu : ℕ) → IsOrderly t → IsProcessor cpu → KeepsOthers t (changed (on_processor cpu) t id) id
migrated-others t id cpu was good =
    there-others t id (λ task. placed t id (on_processor cpu task)) (task_at t id) was refl
    (λ task there. wrote-others t (placed t id (on_processor cpu task)) id (on_processor cpu task)
    (place t id task (on_processor cpu task) was there (migrated-good task cpu (row-of t id task was there) good))
    (wrote-row t id task (on_processor cpu task) there))

found-small-by : (here : Bool) (p : ℕ) (x : Plain) (xs : List Plain) (e : Plain) → x.id < 256 →
    (find (λ y. y.priority == p) xs ≡ Some e → e.id < 256) →
    (if here then Some x else find (λ y. y.priority == p) xs) ≡ Some e → e.id < 256
found-small-by true p x xs e small rest is = subst (λ n. n < 256) (ap (λ (o : Option Plain). (unwrap_or o x).id) is) small
found-small-by false p x xs e small rest is = rest is

found-small : (p : ℕ) (xs : List Plain) (e : Plain) → AreApart xs → find (λ y. y.priority == p) xs ≡ Some e → e.id < 256
found-small p [] e apart is = let wrong : ⊥ = cc in absurd wrong
found-small p (x ∷ xs) e apart is = found-small-by (x.priority == p) p x xs e apart.0 (found-small p xs e apart.2) is

moved-apart : (found : Option Plain) (xs : List Plain) → ((e : Plain) → found ≡ Some e → e.id < 256) → AreApart xs →
    AreApart (moved_behind found xs)
moved-apart None xs small apart = apart
moved-apart (Some e) xs small apart = apart-placed Priority e xs (small e refl) apart

pub turned-keeps : (t : TaskTable) (cpu priority : ℕ) → IsOrderly t → cpu < 9 → KeepsReady t (turned t cpu priority)
turned-keeps t cpu priority was small =
    let xs : List Plain = ready_on t cpu in
    record {
      orderly = record {
        consistent = consistent-turned t cpu (rotated priority xs) was.consistent small
            (λ id. priority_in-rotated id priority xs (was.once cpu)) (ordered-rotated priority xs (was.consistent.ordered cpu));
        once = λ at. either-set AreApart t.ready cpu at (rotated priority xs)
            (moved-apart (find (λ y. y.priority == priority) xs) xs (λ e. found-small priority xs e (was.once cpu)) (was.once cpu)) (was.once at);
      };
      ready = λ at other is. is;
    }

-- What a write to a task's row and its moves in the ready lists keep.
use Rattle.std.proofs.Common.{◌≡◌, ◌<◌, ◌≤◌, ℕ, List, [], refl, sym, true≢false, ap, subst, ◌∙◌, length, arith}
use Rattle.std.specs.Prelude.{Bool, true, false, ◌==◌, ◌&&◌, nat_lt, if◌then◌else◌, Option, None, Some, IsSome, IfSome, slice_set, slice_index_or}
use Rattle.std.proofs.lemmas.Bool.Decides.{nat_tests}
use Rattle.std.proofs.lemmas.Grind.{get_or-set_at}
use Rattle.std.proofs.lemmas.List.{get_or-set_other, length-set}
use Rattle.std.proofs.Math.ListN.{get_or-eq_default}
use Rattle.brd_exec.specs.State.{State}
use Rattle.brd_queue.specs.Queue.{Plain, has, priority_in, behind_equals, without, rotated}
use Rattle.brd_queue.specs.Rule.{IsByPriority}
use Rattle.brd_queue.proofs.PriorityLemmas.{priority_in-without, priority_in-behind_equals, has-priority_in, ordered-rotated}
use Rattle.brd_queue.proofs.RuleLemmas.{ordered-behind_equals, ordered-without}
use Rattle.brd_tasks.specs.declared.task.Task.{Task}
use Rattle.brd_tasks.specs.Status.{is_ready}
use Rattle.brd_tasks.specs.Tasks.{TaskTable, task_at, ready_on, left, entered, placed, patched, with_context, first_id, top_of}
use Rattle.brd_tasks.specs.Ready.{IsTask, IsRow, ready_priority, IsConsistent}

abbrev at : List (List Plain) → ℕ → List Plain
at ready cpu = slice_index_or ready cpu []

-- what stands at a place of ready lists of which one was written
set-at : (ready : List (List Plain)) (i cpu : ℕ) (xs : List Plain) → i < length ready → at (slice_set ready i xs) cpu ≡ (if i == cpu then xs else at ready cpu)
set-at ready i cpu xs small = grind (arith, nat_tests, get_or-set_at ready i cpu xs [], get_or-set_other ready i cpu xs [])

left-length : (id : ℕ) (task : Option Task) (ready : List (List Plain)) → length (left id task ready) ≡ length ready
left-length id None ready = refl
left-length id (Some task) ready = grind (arith, length-set)

entered-length : (id : ℕ) (task : Task) (ready : List (List Plain)) → length (entered id task ready) ≡ length ready
entered-length id task ready = grind (arith, length-set)

-- whoever leaves stands in no ready list, and the others stand as they stood
left-priority : (k id cpu : ℕ) (task : Option Task) (ready : List (List Plain)) → IfSome task (λ it. it.cpu < length ready) →
    ((other : ℕ) → priority_in id (at ready other) ≡ ready_priority task other) →
    priority_in k (at (left id task ready) cpu) ≡ (if id == k then None else priority_in k (at ready cpu))
left-priority k id cpu None ready small was = grind (arith, nat_tests, was cpu)
left-priority k id cpu (Some task) ready small was =
    grind (arith, nat_tests, was cpu, set-at ready task.cpu cpu (without id (at ready task.cpu)), small, priority_in-without k id (at ready cpu))

entered-priority : (k id cpu : ℕ) (task : Task) (ready : List (List Plain)) → task.cpu < length ready → (is_ready task.status ≡ true → has id (at ready task.cpu) ≡ false) →
    priority_in k (at (entered id task ready) cpu) ≡ (if id == k && (is_ready task.status && task.cpu == cpu) then Some task.priority else priority_in k (at ready cpu))
entered-priority k id cpu task ready small new =
    grind (
      arith,
      nat_tests,
      set-at ready task.cpu cpu (behind_equals (record { id = id; priority = task.priority; wanted = tt }) (at ready task.cpu)),
      small,
      new,
      priority_in-behind_equals k (record { id = id; priority = task.priority; wanted = tt }) (at ready cpu),
    )

left-ordered : (id cpu : ℕ) (task : Option Task) (ready : List (List Plain)) → IfSome task (λ it. it.cpu < length ready) →
    ((other : ℕ) → IsByPriority (at ready other)) → IsByPriority (at (left id task ready) cpu)
left-ordered id cpu None ready small ordered = ordered cpu
left-ordered id cpu (Some task) ready small ordered =
    grind (arith, nat_tests, set-at ready task.cpu cpu (without id (at ready task.cpu)), small, ordered cpu, ordered-without id (at ready cpu))

entered-ordered : (id cpu : ℕ) (task : Task) (ready : List (List Plain)) → task.cpu < length ready →
    ((other : ℕ) → IsByPriority (at ready other)) → IsByPriority (at (entered id task ready) cpu)
entered-ordered id cpu task ready small ordered =
    grind (
      arith,
      nat_tests,
      set-at ready task.cpu cpu (behind_equals (record { id = id; priority = task.priority; wanted = tt }) (at ready task.cpu)),
      small,
      ordered cpu,
      ordered-behind_equals (record { id = id; priority = task.priority; wanted = tt }) (at ready cpu),
    )

small_by : (small : Bool) (rows : List (Option Task)) (id : ℕ) (task : Task) → nat_lt id (length rows) ≡ small → slice_index_or rows id None ≡ Some task → id < length rows
small_by true rows id task test there = grind (arith, nat_tests, test)
small_by false rows id task test there =
    let past : length rows ≤ id = grind (arith, nat_tests, test) in
    let wrong : ◌≡◌ {A = Option Task} None (Some task) = sym (get_or-eq_default rows None past) ∙ there in
    let no : ⊥ = cc in absurd no

-- a task that is there has an ID below 256
pub known_small : (t : TaskTable) (id : ℕ) (row : Option Task) → IsConsistent t → row ≡ task_at t id → IsSome row → id < 256
known_small t id None was is there = absurd (true≢false (sym there))
known_small t id (Some task) was is there = omega (arith, was.rows, small_by (nat_lt id (length t.rows)) t.rows id task refl (sym is))

task_at-set : (t : TaskTable) (k id : ℕ) (task : Task) → id < length t.rows →
    slice_index_or (slice_set t.rows id (Some task)) k None ≡ (if id == k then Some task else task_at t k)
task_at-set t k id task small = grind (arith, nat_tests, get_or-set_at t.rows id k (Some task) None, get_or-set_other t.rows id k (Some task) None)

-- the task that leaves stands in a list below 9
old_small : (task : Option Task) (ready : List (List Plain)) → length ready ≡ 9 → IsRow task → IfSome task (λ it. it.cpu < length ready)
old_small None ready lists assigned = tt
old_small (Some task) ready lists assigned = omega (arith, lists, assigned.processor.1)

-- who left stands in no list
pub left-new : (t : TaskTable) (id cpu : ℕ) → IsConsistent t → has id (at (left id (task_at t id) t.ready) cpu) ≡ false
left-new t id cpu was =
    grind (
      arith,
      nat_tests,
      has-priority_in id (at (left id (task_at t id) t.ready) cpu),
      left-priority id id cpu (task_at t id) t.ready (old_small (task_at t id) t.ready was.lists (was.each id)) (λ other. was.listed id other),
    )

listed-placed : (same : Bool) (t : TaskTable) (id : ℕ) (task : Task) (k cpu : ℕ) → (id == k) ≡ same → IsConsistent t → id < 256 → IsTask task →
    priority_in k (at (entered id task (left id (task_at t id) t.ready)) cpu) ≡ ready_priority (slice_index_or (slice_set t.rows id (Some task)) k None) cpu
listed-placed same t id task k cpu test was small assigned =
    let old : IfSome (task_at t id) (λ it. it.cpu < length t.ready) = old_small (task_at t id) t.ready was.lists (was.each id) in
    let long : length (left id (task_at t id) t.ready) ≡ 9 = left-length id (task_at t id) t.ready ∙ was.lists in
    grind (
      arith,
      nat_tests,
      test,
      task_at-set t k id task,
      small,
      was.rows,
      was.listed k cpu,
      assigned.processor.1,
      long,
      left-priority k id cpu (task_at t id) t.ready old (λ other. was.listed id other),
      entered-priority k id cpu task (left id (task_at t id) t.ready),
      left-new t id task.cpu was,
    )

assigned-set : (same : Bool) (t : TaskTable) (id : ℕ) (task : Task) (k : ℕ) → (id == k) ≡ same → IsConsistent t → id < 256 → IsTask task →
    IsRow (slice_index_or (slice_set t.rows id (Some task)) k None)
assigned-set same t id task k test was small assigned =
    grind (arith, nat_tests, test, task_at-set t k id task, small, was.rows, was.each k, assigned)

-- who is there after a row was written anew was there before
there-before : (same : Bool) (t : TaskTable) (id : ℕ) (task : Task) (k : ℕ) → (id == k) ≡ same → IsConsistent t → id < 256 → IsSome (task_at t id) →
    IsSome (slice_index_or (slice_set t.rows id (Some task)) k None) → IsSome (task_at t k)
there-before true t id task k test was small there now =
    let same : id ≡ k = grind (arith, nat_tests, test) in
    subst (λ n. IsSome (task_at t n)) same there
there-before false t id task k test was small there now =
    let is : slice_index_or (slice_set t.rows id (Some task)) k None ≡ task_at t k =
    task_at-set t k id task (omega (arith, was.rows, small)) ∙ ap (λ x. if x then Some task else task_at t k) test in
    subst IsSome is now

pub consistent-context : (t : TaskTable) (id : ℕ) (s : State) → IsConsistent t → IsConsistent (with_context t id s)
consistent-context t id s was = record {
  rows = was.rows;
  contexts = λ k there. subst (λ n. k < n) (sym (length-set t.contexts id s)) (was.contexts k there);
  lists = was.lists;
  nobody = was.nobody;
  each = was.each;
  listed = was.listed;
  ordered = was.ordered;
}

nobody-by : (zero : Bool) (t : TaskTable) (id : ℕ) (task : Task) → (id == 0) ≡ zero → IsConsistent t → id < 256 → IsSome (task_at t id) →
    slice_index_or (slice_set t.rows id (Some task)) 0 None ≡ None
nobody-by true t id task test was small there =
    let at : id ≡ 0 = grind (arith, nat_tests, test) in
    let none : task_at t id ≡ None = ap (task_at t) at ∙ was.nobody in
    absurd (true≢false (sym (subst IsSome none there)))
nobody-by false t id task test was small there = grind (arith, nat_tests, test, task_at-set t 0 id task, small, was.rows, was.nobody)

pub consistent-placed : (t : TaskTable) (id : ℕ) (task : Task) → IsConsistent t → id < 256 → IsSome (task_at t id) → IsTask task → IsConsistent (placed t id task)
consistent-placed t id task was small there assigned =
    let old : IfSome (task_at t id) (λ it. it.cpu < length t.ready) = old_small (task_at t id) t.ready was.lists (was.each id) in
    let long : length (left id (task_at t id) t.ready) ≡ 9 = left-length id (task_at t id) t.ready ∙ was.lists in
    record {
      rows = length-set t.rows id (Some task) ∙ was.rows;
      contexts = λ k now. was.contexts k (there-before (id == k) t id task k refl was small there now);
      lists = entered-length id task (left id (task_at t id) t.ready) ∙ long;
      nobody = nobody-by (id == 0) t id task refl was small there;
      each = λ k. assigned-set (id == k) t id task k refl was small assigned;
      listed = λ k cpu. listed-placed (id == k) t id task k cpu refl was small assigned;
      ordered = λ cpu. entered-ordered id cpu task (left id (task_at t id) t.ready) (omega (arith, long, assigned.processor.1))
          (λ other. left-ordered id other (task_at t id) t.ready old was.ordered);
    }

listed-patched : (same : Bool) (t : TaskTable) (id : ℕ) (task : Task) (k cpu : ℕ) → (id == k) ≡ same → IsConsistent t → id < 256 →
    ready_priority (Some task) cpu ≡ ready_priority (task_at t id) cpu →
    priority_in k (ready_on t cpu) ≡ ready_priority (slice_index_or (slice_set t.rows id (Some task)) k None) cpu
listed-patched same t id task k cpu test was small as_was = grind (arith, nat_tests, test, task_at-set t k id task, small, was.rows, was.listed k cpu, as_was)

pub consistent-patched : (t : TaskTable) (id : ℕ) (task : Task) → IsConsistent t → id < 256 → IsSome (task_at t id) → IsTask task →
    ((cpu : ℕ) → ready_priority (Some task) cpu ≡ ready_priority (task_at t id) cpu) → IsConsistent (patched t id task)
consistent-patched t id task was small there assigned as_was = record {
  nobody = nobody-by (id == 0) t id task refl was small there;
  rows = length-set t.rows id (Some task) ∙ was.rows;
  contexts = λ k now. was.contexts k (there-before (id == k) t id task k refl was small there now);
  lists = was.lists;
  each = λ k. assigned-set (id == k) t id task k refl was small assigned;
  listed = λ k cpu. listed-patched (id == k) t id task k cpu refl was small (as_was cpu);
  ordered = was.ordered;
}

-- ready lists of which one was turned: who stands in it, and with which priority, is as it was
pub consistent-turned : (t : TaskTable) (cpu : ℕ) (xs : List Plain) → IsConsistent t → cpu < 9 →
    ((id : ℕ) → priority_in id xs ≡ priority_in id (ready_on t cpu)) → IsByPriority xs → IsConsistent (record t { ready = slice_set t.ready cpu xs })
consistent-turned t cpu xs was small stay ordered = record {
  rows = was.rows;
  contexts = was.contexts;
  lists = length-set t.ready cpu xs ∙ was.lists;
  nobody = was.nobody;
  each = was.each;
  listed = λ k other. grind (arith, nat_tests, set-at t.ready cpu other xs, small, was.lists, stay k, was.listed k other);
  ordered = λ other. grind (arith, nat_tests, set-at t.ready cpu other xs, small, was.lists, ordered, was.ordered other);
}

-- The same of what a function has made step by step.

pub left-new-as : (t : TaskTable) (id cpu : ℕ) (old : Option Task) (ready : List (List Plain)) → IsConsistent t → old ≡ task_at t id → ready ≡ left id old t.ready →
    has id (at ready cpu) ≡ false
left-new-as t id cpu old ready was old_is ready_is =
    ap (λ r. has id (at r cpu)) (ready_is ∙ ap (λ o. left id o t.ready) old_is) ∙ left-new t id cpu was

pub consistent-placed-as : (t : TaskTable) (id : ℕ) (task : Task) (old : Option Task) (between after : List (List Plain)) → IsConsistent t → old ≡ task_at t id → IsSome old →
    between ≡ left id old t.ready → after ≡ entered id task between → IsTask task →
    IsConsistent (record { rows = slice_set t.rows id (Some task); contexts = t.contexts; ready = after })
consistent-placed-as t id task old between after was old_is there between_is after_is assigned =
    let made : entered id task (left id (task_at t id) t.ready) ≡ after = sym (after_is ∙ ap (entered id task) (between_is ∙ ap (λ o. left id o t.ready) old_is)) in
    subst (λ r. IsConsistent (record { rows = slice_set t.rows id (Some task); contexts = t.contexts; ready = r })) made
    (consistent-placed t id task was (known_small t id old was old_is there) (subst IsSome old_is there) assigned)

pub consistent-patched-as : (t : TaskTable) (id : ℕ) (task : Task) (row : Option Task) → IsConsistent t → row ≡ task_at t id → IsSome row →
    IfSome row (λ old. (task.status ≡ old.status) × (task.cpu ≡ old.cpu) × (task.priority ≡ old.priority)) → IsTask task → IsConsistent (patched t id task)
consistent-patched-as t id task None was is there same assigned = absurd (true≢false (sym there))
consistent-patched-as t id task (Some old) was is there same assigned =
    consistent-patched t id task was (known_small t id (Some old) was is there) (subst IsSome is there) assigned
    (λ cpu. grind (arith, same.0, same.1, same.2) ∙ ap (λ row. ready_priority row cpu) is)

pub consistent-turned-as : (t : TaskTable) (cpu priority : ℕ) (ready : List (List Plain)) → IsConsistent t → cpu < 9 → ready ≡ slice_set t.ready cpu (rotated priority (ready_on t cpu)) →
    ((id : ℕ) → priority_in id (rotated priority (ready_on t cpu)) ≡ priority_in id (ready_on t cpu)) → IsConsistent (record { rows = t.rows; contexts = t.contexts; ready = ready })
consistent-turned-as t cpu priority ready was small is stay =
    subst (λ r. IsConsistent (record { rows = t.rows; contexts = t.contexts; ready = r })) (sym is)
    (consistent-turned t cpu (rotated priority (ready_on t cpu)) was small stay (ordered-rotated priority (ready_on t cpu) (was.ordered cpu)))

-- there is nobody on a processor that isn't there
pub top-past : (t : TaskTable) (cpu : ℕ) → IsConsistent t → 8 < cpu → None ≡ top_of t cpu
top-past t cpu was past = ap first_id (sym (get_or-eq_default t.ready [] {n = cpu} (omega (arith, was.lists, past))))

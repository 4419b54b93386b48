-- Which tasks are there.
use Rattle.std.proofs.Common.{◌≡◌, ◌<◌, ℕ, List, [], ◌∷◌, length, map, refl, sym, ap, ◌∙◌, arith}
use Rattle.std.specs.Prelude.{Bool, true, false, Option, None, Some, IsSome, IfSome, is_some, slice_index_or, slice_set}
use Rattle.std.proofs.lemmas.Bool.Decides.{nat_tests}
use Rattle.std.proofs.Math.ListN.{get_or-map}
use Rattle.std.proofs.Math.Seq.{map-set_same}
use Rattle.brd_queue.specs.Queue.{Plain, has}
use Rattle.brd_queue.proofs.PriorityLemmas.{has-priority_in}
use Rattle.brd_tasks.specs.declared.task.Task.{Task}
use Rattle.brd_tasks.specs.Tasks.{TaskTable, task_at, ready_on, first_id, top_of, are_there}
use Rattle.brd_tasks.specs.Ready.{ready_priority, IsConsistent}
use Rattle.brd_tasks.proofs.Consistency.{known_small}

-- a task's row is written anew
pub there_set : (rows : List (Option Task)) (id : ℕ) (task : Task) → IsSome (slice_index_or rows id None) →
    map is_some (slice_set rows id (Some task)) ≡ map is_some rows
there_set rows id task there = map-set_same is_some rows id (Some task) None (sym there)

pub there-small : (t : TaskTable) (id : ℕ) → IsConsistent t → IsSome (task_at t id) → id < 256
there-small t id was there = known_small t id (task_at t id) was refl there

-- whether there is a task of an ID
pub there-is : (t : TaskTable) (id : ℕ) → slice_index_or (are_there t) id false ≡ is_some (task_at t id)
there-is t id = get_or-map is_some t.rows id None

there-still : (old new : TaskTable) (id : ℕ) → are_there new ≡ are_there old → IsSome (task_at old id) → IsSome (task_at new id)
there-still old new id same there = sym (there-is new id) ∙ ap (λ (are : List Bool). slice_index_or are id false) same ∙ there-is old id ∙ there

-- a task that was there has a context
pub has-context : (old new : TaskTable) (id : ℕ) → IsConsistent new → are_there new ≡ are_there old → IsSome (task_at old id) → id < length new.contexts
has-context old new id was same there = was.contexts id (there-still old new id same there)

-- who stands first in a ready list is a task

pub first-has : (id : ℕ) (ready : List Plain) → first_id ready ≡ Some id → has id ready ≡ true
first-has id [] is = let wrong : ⊥ = cc in absurd wrong
first-has id (x ∷ xs) is =
    let same : x.id ≡ id = cc in
    grind (arith, nat_tests, same)

row-there : (row : Option Task) (cpu : ℕ) → is_some (ready_priority row cpu) ≡ true → IsSome row
row-there None cpu is = is
row-there (Some task) cpu is = refl

pub top-there : (t : TaskTable) (cpu : ℕ) (first : Option ℕ) → IsConsistent t → top_of t cpu ≡ first → IfSome first (λ id. IsSome (task_at t id))
top-there t cpu None was is = tt
top-there t cpu (Some id) was is =
    row-there (task_at t id) cpu
    (sym (ap is_some (was.listed id cpu)) ∙ sym (has-priority_in id (ready_on t cpu)) ∙ first-has id (ready_on t cpu) is)

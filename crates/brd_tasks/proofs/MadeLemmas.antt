-- The tasks at the making: by one ID more, and that they are consistent.
use Rattle.std.proofs.Common.{◌≡◌, ◌≤◌, ◌<◌, ℕ, ◌+◌, List, [], ◌∷◌, ◌++◌, refl, sym, ap, subst, ◌∙◌, length, arith}
use Rattle.std.specs.Prelude.{Bool, true, false, ◌==◌, nat_lt, if◌then◌else◌, max, Option, None, Some, IsSome, All, find, replicate, slice_index_or}
use Rattle.std.specs.Option.{option_map}
use Rattle.std.proofs.lemmas.List.FromFn.{map-range_with_len_more, length-map-range_with_len, get_or-map-range_with_len}
use Rattle.std.proofs.lemmas.Bool.{false≢true}
use Rattle.std.proofs.Math.ListN.{get_or-eq_default}
use Rattle.std.proofs.lemmas.Bool.Decides.{nat_tests}
use Rattle.std.proofs.lemmas.List.{get_or-replicate, length-replicate}
use Rattle.std.proofs.lemmas.List.Elements.{All-get_or, All-tail}
use Rattle.brd_exec.specs.State.{State}
use Rattle.brd_queue.specs.Queue.{Plain, priority_in}
use Rattle.brd_queue.specs.Rule.{IsByPriority}
use Rattle.brd_tasks.specs.declared.task.TaskSetup.{TaskSetup}
use Rattle.brd_tasks.specs.declared.task.Task.{Task}
use Rattle.brd_tasks.specs.Tasks.{unstarted, first_row, first_context, first_rows, first_contexts, ids_of, made}
use Rattle.brd_tasks.specs.Ready.{IsSetup, IsRow, ready_priority, IsConsistent}

pub no_rows : (setups : List TaskSetup) → first_rows setups 0 ≡ []
unfolding first_rows
no_rows setups = refl

pub rows_more : (setups : List TaskSetup) (n : ℕ) → first_rows setups (n + 1) ≡ first_rows setups n ++ first_row setups n ∷ []
unfolding first_rows
rows_more setups n = map-range_with_len_more (first_row setups) 0 n n (omega arith)

pub no_contexts : (setups : List TaskSetup) → first_contexts setups 0 ≡ []
unfolding first_contexts
no_contexts setups = refl

pub contexts_more : (setups : List TaskSetup) (n : ℕ) → first_contexts setups (n + 1) ≡ first_contexts setups n ++ first_context setups n ∷ []
unfolding first_contexts
contexts_more setups n = map-range_with_len_more (first_context setups) 0 n n (omega arith)

pub rows-length : (setups : List TaskSetup) (n : ℕ) → length (first_rows setups n) ≡ n
unfolding first_rows
rows-length setups n = length-map-range_with_len (first_row setups) 0 n

contexts-length : (setups : List TaskSetup) (n : ℕ) → length (first_contexts setups n) ≡ n
unfolding first_contexts
contexts-length setups n = length-map-range_with_len (first_context setups) 0 n

same-at-by : {A : Type 0} → (small : Bool) (n at : ℕ) (x : A) → nat_lt at n ≡ small → slice_index_or (replicate n x) at x ≡ x
same-at-by true n at x test = get_or-replicate n at x x (grind (arith, nat_tests, test))
same-at-by false n at x test = get_or-eq_default (replicate n x) x (grind (arith, nat_tests, test, length-replicate))

-- a list of the same, also after its end
pub same-at : {A : Type 0} → (n at : ℕ) (x : A) → slice_index_or (replicate n x) at x ≡ x
same-at n at x = same-at-by (nat_lt at n) n at x refl

-- a task that hasn't started is assigned, and is not ready
row-new : (found : Option TaskSetup) (cpu : ℕ) → ready_priority (option_map unstarted found) cpu ≡ None
row-new None cpu = refl
row-new (Some setup) cpu = refl

-- what stands at a place of the rows: what its ID makes, or nothing
pub row-at : (small : Bool) (setups : List TaskSetup) (n id : ℕ) → nat_lt id n ≡ small → (P : Option Task → Type 0) → P None → P (first_row setups id) →
    P (slice_index_or (first_rows setups n) id None)
unfolding first_rows
row-at true setups n id test P none some =
    let small : id < n = grind (arith, nat_tests, test) in
    subst P (sym (get_or-map-range_with_len (first_row setups) 0 n id id None small (omega arith))) some
row-at false setups n id test P none some =
    let past : length (first_rows setups n) ≤ id = grind (arith, nat_tests, test, rows-length setups n) in
    subst P (sym (get_or-eq_default (first_rows setups n) None past)) none

assigned-by : (same : Bool) (id : ℕ) (setup : TaskSetup) (setups : List TaskSetup) → IsSetup setup → IsRow (option_map unstarted (find (λ s. s.id == id) setups)) →
    IsRow (option_map unstarted (if same then Some setup else find (λ s. s.id == id) setups))
assigned-by true id setup setups first rest = record { processor = first.2; queued = tt; idle = λ dormant. (refl, refl) }
assigned-by false id setup setups first rest = rest

assigned-new : (id : ℕ) (setups : List TaskSetup) → All IsSetup setups → IsRow (first_row setups id)
assigned-new id [] all = tt
assigned-new id (setup ∷ setups) all =
    assigned-by (setup.id == id) id setup setups (All-get_or IsSetup (setup ∷ setups) 0 setup (omega arith) all)
    (assigned-new id setups (All-tail IsSetup setup setups all))

nobody-found : (setups : List TaskSetup) → All IsSetup setups → first_row setups 0 ≡ None
nobody-found [] all = refl
nobody-found (setup ∷ setups) all =
    let first : IsSetup setup = All-get_or IsSetup (setup ∷ setups) 0 setup (omega arith) all in
    grind (arith, nat_tests, first.0, nobody-found setups (All-tail IsSetup setup setups all))

-- a task has an ID below their number
small-by : (same : Bool) (id : ℕ) (setup : TaskSetup) (setups : List TaskSetup) → (setup.id == id) ≡ same →
    (IsSome (first_row setups id) → id < ids_of setups) →
    IsSome (option_map unstarted (if same then Some setup else find (λ s. s.id == id) setups)) → id < max (setup.id + 1) (ids_of setups)
small-by true id setup setups test rest some =
    let same : setup.id ≡ id = grind (arith, nat_tests, test) in
    omega (arith, same)
small-by false id setup setups test rest some = omega (arith, rest some)

first-small : (id : ℕ) (setups : List TaskSetup) → IsSome (first_row setups id) → id < ids_of setups
first-small id [] some = absurd (false≢true some)
first-small id (setup ∷ setups) some = small-by (setup.id == id) id setup setups refl (first-small id setups) some

pub made-consistent : (setups : List TaskSetup) → All IsSetup setups → IsConsistent (made setups)
made-consistent setups all = record {
  rows = rows-length setups 256;
  contexts = λ id there. omega (
    arith,
    contexts-length setups (ids_of setups),
    first-small id setups
        (row-at (nat_lt id 256) setups 256 id refl (λ row. IsSome row → IsSome (first_row setups id)) (λ none. absurd (false≢true none)) (λ some. some) there),
  );
  lists = refl;
  nobody = row-at true setups 256 0 refl (λ row. row ≡ None) refl (nobody-found setups all);
  each = λ id. row-at (nat_lt id 256) setups 256 id refl IsRow tt (assigned-new id setups all);
  listed = λ id cpu. ap (priority_in id) (same-at 9 cpu []) ∙ row-at (nat_lt id 256) setups 256 id refl (λ row. None ≡ ready_priority row cpu) refl (sym (row-new (find (λ setup. setup.id == id) setups) cpu));
  ordered = λ cpu. subst IsByPriority (sym (same-at 9 cpu [])) tt;
}

-- the same of what a function has made part by part
pub made-consistent-as : (setups : List TaskSetup) (rows : List (Option Task)) (contexts : List State) (ready : List (List Plain)) →
    rows ≡ first_rows setups 256 → contexts ≡ first_contexts setups (ids_of setups) → ready ≡ replicate 9 [] → All IsSetup setups →
    IsConsistent (record { rows = rows; contexts = contexts; ready = ready })
made-consistent-as setups rows contexts ready rows_are contexts_are ready_is all =
    subst (λ r. IsConsistent (record { rows = r; contexts = contexts; ready = ready })) (sym rows_are)
    (subst (λ c. IsConsistent (record { rows = first_rows setups 256; contexts = c; ready = ready })) (sym contexts_are)
    (subst (λ l. IsConsistent (record { rows = first_rows setups 256; contexts = first_contexts setups (ids_of setups); ready = l })) (sym ready_is) (made-consistent setups all)))

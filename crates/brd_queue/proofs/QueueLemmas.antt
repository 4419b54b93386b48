-- Who stands in a queue after each call, that nobody stands in it twice, and how many there can be.
use Rattle.std.proofs.Common.{◌≡◌, ◌<◌, ◌≤◌, ℕ, zero, suc, List, [], ◌∷◌, ◌++◌, length, take, drop, map, refl, sym, ap, subst, ◌∙◌, arith}
use Rattle.std.specs.List.{AllByRecursion, IsDistinct, list_any}
use Rattle.std.proofs.Common.{true≢false, eqb}
use Rattle.std.proofs.lemmas.List.{length-map}
use Rattle.std.proofs.lemmas.Map.Steps.{length-le_from_distinct_below}
use Rattle.std.specs.Prelude.{Bool, true, false, ◌==◌, ◌||◌, ◌&&◌, not, if◌then◌else◌, remove, slice_get, slice_index_or, find, Option, None, Some, IfSome}
use Rattle.std.specs.Option.{option_map}
use Rattle.std.proofs.lemmas.Bool.Decides.{nat_tests}
use Rattle.brd_queue.specs.declared.entry.QueueEntry.{QueueEntry}
use Rattle.brd_queue.specs.declared.entry.QueueOrder.{QueueOrder}
use Rattle.brd_queue.specs.declared.entry.QueueOrder.TheVariants.{Arrival, Priority}
use Rattle.brd_queue.specs.Queue.{has, entered, behind_equals, without, moved_behind, with_priority, renumbered, reordered, AreApart}

pub without-absent : {W : Type 0} → (id : ℕ) (xs : List (QueueEntry W)) → has id xs ≡ false → without id xs ≡ xs
without-absent id [] none = refl
without-absent id (x ∷ xs) none = grind (arith, nat_tests, without-absent id xs)

pub has-behind_equals : {W : Type 0} → (k : ℕ) (e : QueueEntry W) (xs : List (QueueEntry W)) → has k (behind_equals e xs) ≡ (e.id == k) || has k xs
has-behind_equals k e [] = refl
has-behind_equals k e (x ∷ xs) = grind (arith, nat_tests, has-behind_equals k e xs)

pub has-append : {W : Type 0} → (k : ℕ) (e : QueueEntry W) (xs : List (QueueEntry W)) → has k (xs ++ e ∷ []) ≡ (e.id == k) || has k xs
has-append k e [] = refl
has-append k e (x ∷ xs) = grind (arith, nat_tests, has-append k e xs)

pub has-without : {W : Type 0} → (k id : ℕ) (xs : List (QueueEntry W)) → has k (without id xs) ≡ not (k == id) && has k xs
has-without k id [] = grind (arith, nat_tests)
has-without k id (x ∷ xs) = grind (arith, nat_tests, has-without k id xs)

pub apart-behind_equals : {W : Type 0} → (e : QueueEntry W) (xs : List (QueueEntry W)) → e.id < 256 → has e.id xs ≡ false → AreApart xs → AreApart (behind_equals e xs)
apart-behind_equals e [] small new apart = (small, refl, tt)
apart-behind_equals e (x ∷ xs) small new apart = grind (arith, nat_tests, apart-behind_equals e xs small, has-behind_equals x.id e xs)

pub apart-append : {W : Type 0} → (e : QueueEntry W) (xs : List (QueueEntry W)) → e.id < 256 → has e.id xs ≡ false → AreApart xs → AreApart (xs ++ e ∷ [])
apart-append e [] small new apart = (small, refl, tt)
apart-append e (x ∷ xs) small new apart = grind (arith, nat_tests, apart-append e xs small, has-append x.id e xs)

pub apart-without : {W : Type 0} → (id : ℕ) (xs : List (QueueEntry W)) → AreApart xs → AreApart (without id xs)
apart-without id [] apart = tt
apart-without id (x ∷ xs) apart = grind (arith, nat_tests, apart-without id xs, has-without x.id id xs)

pub apart-drop : {W : Type 0} → (i : ℕ) (xs : List (QueueEntry W)) → AreApart xs → AreApart (drop i xs)
apart-drop zero xs apart = apart
apart-drop (suc i) [] apart = tt
apart-drop (suc i) (x ∷ xs) apart = apart-drop i xs apart.2

-- the rest of a queue in which the first entry is a task's has no other of that task's
without-first : {W : Type 0} → (id : ℕ) (x : QueueEntry W) (xs : List (QueueEntry W)) → AreApart (x ∷ xs) → x.id ≡ id → without id (x ∷ xs) ≡ xs
without-first id x xs apart same = grind (arith, nat_tests, same, apart.1, without-absent id xs)

-- a task's entry is at a place, and everything before it stays
pub remove-without : {W : Type 0} → (id i : ℕ) (x : QueueEntry W) (xs : List (QueueEntry W)) → AreApart xs → drop i xs ≡ x ∷ drop (suc i) xs → x.id ≡ id →
    without id xs ≡ take i xs ++ without id (drop i xs) → remove xs i ≡ without id xs
remove-without id i x xs apart split same kept =
    let rest : AreApart (x ∷ drop (suc i) xs) = subst AreApart split (apart-drop i xs apart) in
    sym (kept ∙ ap (λ l. take i xs ++ l) (ap (without id) split ∙ without-first id x (drop (suc i) xs) rest same))

-- the IDs of a queue
abbrev ids : {W : Type 0} → List (QueueEntry W) → List ℕ
ids xs = map (λ x. x.id) xs

among_ids : {W : Type 0} → (q : ℕ) (xs : List (QueueEntry W)) → AreApart xs → list_any (eqb q) (ids xs) ≡ true → q < 256
among_ids q [] apart there = absurd (true≢false (sym there))
among_ids q (x ∷ xs) apart there = grind (arith, nat_tests, among_ids q xs apart.2, apart.0)

others_differ : {W : Type 0} → (id : ℕ) (xs : List (QueueEntry W)) → has id xs ≡ false → AllByRecursion (λ other. eqb id other ≡ false) (ids xs)
others_differ id [] none = tt
others_differ id (x ∷ xs) none = (grind (arith, nat_tests), others_differ id xs (grind (arith, nat_tests)))

are_distinct : {W : Type 0} → (xs : List (QueueEntry W)) → AreApart xs → IsDistinct eqb (ids xs)
unfolding IsDistinct
are_distinct [] apart = tt
are_distinct (x ∷ xs) apart = (others_differ x.id xs apart.1, are_distinct xs apart.2)

-- there is room for a task that doesn't stand in the queue
pub room_for : {W : Type 0} → (e : QueueEntry W) (xs : List (QueueEntry W)) → e.id < 256 → has e.id xs ≡ false → AreApart xs → length xs < 256
room_for e xs small new apart =
    let all : AreApart (e ∷ xs) = (small, new, apart) in
    let few : length (ids (e ∷ xs)) ≤ 256 = length-le_from_distinct_below (ids (e ∷ xs)) 256 (are_distinct (e ∷ xs) all) (λ q there. among_ids q (e ∷ xs) all there) in
    omega (arith, few, length-map xs (λ x. x.id))

pub apart-entered : {W : Type 0} → (order : QueueOrder) (e : QueueEntry W) (xs : List (QueueEntry W)) → e.id < 256 → has e.id xs ≡ false → AreApart xs → AreApart (entered order e xs)
apart-entered Arrival e xs small new apart = apart-append e xs small new apart
apart-entered Priority e xs small new apart = apart-behind_equals e xs small new apart

-- whoever is found in a queue has an ID below 256
found_small_by : {W : Type 0} → (same : Bool) (p : QueueEntry W → Bool) (x : QueueEntry W) (xs : List (QueueEntry W)) (e : QueueEntry W) → AreApart (x ∷ xs) →
    (AreApart xs → find p xs ≡ Some e → e.id < 256) → (if same then Some x else find p xs) ≡ Some e → e.id < 256
found_small_by true p x xs e apart again found = let same : x ≡ e = cc in subst (λ y. y.id < 256) same apart.0
found_small_by false p x xs e apart again found = again apart.2 found

pub found_small : {W : Type 0} → (p : QueueEntry W → Bool) (xs : List (QueueEntry W)) (e : QueueEntry W) → AreApart xs → find p xs ≡ Some e → e.id < 256
found_small p [] e apart found = let wrong : ⊥ = cc in absurd wrong
found_small p (x ∷ xs) e apart found = found_small_by (p x) p x xs e apart (λ a f. found_small p xs e a f) found

pub has-without_own : {W : Type 0} → (id : ℕ) (xs : List (QueueEntry W)) → has id (without id xs) ≡ false
has-without_own id xs = grind (arith, nat_tests, has-without id id xs)

-- Another priority.

pub has-renumbered : {W : Type 0} → (k id p : ℕ) (xs : List (QueueEntry W)) → has k (renumbered id p xs) ≡ has k xs
has-renumbered k id p [] = refl
has-renumbered k id p (x ∷ xs) = grind (arith, nat_tests, has-renumbered k id p xs)

pub apart-renumbered : {W : Type 0} → (id p : ℕ) (xs : List (QueueEntry W)) → AreApart xs → AreApart (renumbered id p xs)
apart-renumbered id p [] apart = tt
apart-renumbered id p (x ∷ xs) apart = grind (arith, nat_tests, apart-renumbered id p xs, has-renumbered x.id id p xs)

small-some : {W : Type 0} → (found : Option (QueueEntry W)) (p : QueueEntry W → Bool) (xs : List (QueueEntry W)) → AreApart xs → find p xs ≡ found → IfSome found (λ e. e.id < 256)
small-some None p xs apart is = tt
small-some (Some e) p xs apart is = found_small p xs e apart is

small-with_priority : {W : Type 0} → (priority : ℕ) (found : Option (QueueEntry W)) → IfSome found (λ e. e.id < 256) → IfSome (option_map (with_priority priority) found) (λ e. e.id < 256)
small-with_priority priority None small = tt
small-with_priority priority (Some e) small = small

-- the same of what functions have found and changed
pub small-found-as : {W : Type 0} → (found : Option (QueueEntry W)) (p : QueueEntry W → Bool) (xs seen : List (QueueEntry W)) → AreApart xs → seen ≡ xs → found ≡ find p seen → IfSome found (λ e. e.id < 256)
small-found-as found p xs seen apart same is = small-some found p xs apart (sym (is ∙ ap (find p) same))

pub small-changed-as : {W : Type 0} → (changed found : Option (QueueEntry W)) (priority : ℕ) → changed ≡ option_map (with_priority priority) found → IfSome found (λ e. e.id < 256) → IfSome changed (λ e. e.id < 256)
small-changed-as changed found priority is small = subst (λ e. IfSome e (λ x. x.id < 256)) (sym is) (small-with_priority priority found small)

length-renumbered : {W : Type 0} → (id p : ℕ) (xs : List (QueueEntry W)) → length (renumbered id p xs) ≡ length xs
length-renumbered id p [] = refl
length-renumbered id p (x ∷ xs) = grind (arith, nat_tests, length-renumbered id p xs)

-- whatever is written over all of a list takes its place
whole : {A : Type 0} → (xs ys : List A) → length ys ≡ length xs → take (length xs) (ys ++ drop (length ys) xs) ≡ ys
whole xs [] same = grind (arith, same)
whole [] (y ∷ ys) same = let wrong : ⊥ = omega (arith, same) in absurd wrong
whole (x ∷ xs) (y ∷ ys) same = ap (λ l. y ∷ l) (whole xs ys (omega (arith, same)))

pub apart-renumbered-as : {W : Type 0} → (id p len : ℕ) (xs seen new : List (QueueEntry W)) → AreApart xs → seen ≡ xs → length seen ≡ len → new ≡ renumbered id p seen →
    AreApart (take len (new ++ drop (length new) xs))
apart-renumbered-as id p len xs seen new apart same long is =
    let all : new ≡ renumbered id p xs = is ∙ ap (renumbered id p) same in
    let long_old : length xs ≡ len = ap length (sym same) ∙ long in
    subst (λ n. AreApart (take n (new ++ drop (length new) xs))) long_old
    (subst AreApart (sym (whole xs new (ap length all ∙ length-renumbered id p xs))) (subst AreApart (sym all) (apart-renumbered id p xs apart)))

-- a task is given a priority, and comes after its equals
pub reordered-as : {W : Type 0} → (order : QueueOrder) (id p : ℕ) (old new : List (QueueEntry W)) (changed found : Option (QueueEntry W)) → order ≡ Priority → new ≡ moved_behind changed old →
    changed ≡ option_map (with_priority p) found → found ≡ find (λ x. x.id == id) old → new ≡ reordered order id p old
reordered-as Arrival id p old new changed found priority is change there = let wrong : ⊥ = cc in absurd wrong
reordered-as Priority id p old new changed found priority is change there = is ∙ ap (λ c. moved_behind c old) (change ∙ ap (option_map (with_priority p)) there)

-- The entry at a place.

has-remove : {W : Type 0} → (k i : ℕ) (xs : List (QueueEntry W)) → has k xs ≡ false → has k (remove xs i) ≡ false
has-remove k zero [] none = refl
has-remove k (suc i) [] none = refl
has-remove k zero (x ∷ xs) none = grind (arith, nat_tests, none)
has-remove k (suc i) (x ∷ xs) none = grind (arith, nat_tests, none, has-remove k i xs)

pub apart-remove : {W : Type 0} → (i : ℕ) (xs : List (QueueEntry W)) → AreApart xs → AreApart (remove xs i)
apart-remove zero [] apart = tt
apart-remove (suc i) [] apart = tt
apart-remove zero (x ∷ xs) apart = apart.2
apart-remove (suc i) (x ∷ xs) apart = (apart.0, has-remove x.id i xs apart.1, apart-remove i xs apart.2)

pub at-place : {W : Type 0} → (i : ℕ) (xs : List (QueueEntry W)) (e : QueueEntry W) → i < length xs → e ≡ slice_index_or xs i e → slice_get xs i ≡ Some e
at-place i [] e within is = let wrong : ⊥ = omega (arith, within) in absurd wrong
at-place zero (x ∷ xs) e within is = ap Some (sym is)
at-place (suc i) (x ∷ xs) e within is = at-place i xs e (omega (arith, within)) is

pub small-at : {W : Type 0} → (i : ℕ) (xs : List (QueueEntry W)) (e : QueueEntry W) → AreApart xs → slice_get xs i ≡ Some e → e.id < 256
small-at i [] e apart there = let wrong : ⊥ = cc in absurd wrong
small-at zero (x ∷ xs) e apart there = let same : x ≡ e = cc in subst (λ y. y.id < 256) same apart.0
small-at (suc i) (x ∷ xs) e apart there = small-at i xs e apart.2 there

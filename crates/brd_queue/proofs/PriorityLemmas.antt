-- With which priority a task stands in a queue after each call.
use Rattle.std.proofs.Common.{◌≡◌, ℕ, List, [], ◌∷◌, refl, subst, arith}
use Rattle.std.specs.Prelude.{Bool, true, false, ◌==◌, if◌then◌else◌, Option, None, Some, is_some, find}
use Rattle.std.proofs.lemmas.Bool.Decides.{nat_tests}
use Rattle.brd_queue.specs.declared.entry.QueueEntry.{QueueEntry}
use Rattle.brd_queue.specs.Queue.{has, priority_in, behind_equals, without, moved_behind, rotated, AreApart}
use Rattle.brd_queue.specs.Rule.{IsByPriority}
use Rattle.brd_queue.proofs.QueueLemmas.{has-without_own}
use Rattle.brd_queue.proofs.RuleLemmas.{ordered-behind_equals, ordered-without}

pub priority_in-without : {W : Type 0} → (k id : ℕ) (xs : List (QueueEntry W)) → priority_in k (without id xs) ≡ (if id == k then None else priority_in k xs)
priority_in-without k id [] = grind (arith, nat_tests)
priority_in-without k id (x ∷ xs) = grind (arith, nat_tests, priority_in-without k id xs)

pub priority_in-behind_equals : {W : Type 0} → (k : ℕ) (e : QueueEntry W) (xs : List (QueueEntry W)) → has e.id xs ≡ false →
    priority_in k (behind_equals e xs) ≡ (if e.id == k then Some e.priority else priority_in k xs)
priority_in-behind_equals k e [] new = refl
priority_in-behind_equals k e (x ∷ xs) new = grind (arith, nat_tests, new, priority_in-behind_equals k e xs)

pub has-priority_in : {W : Type 0} → (k : ℕ) (xs : List (QueueEntry W)) → has k xs ≡ is_some (priority_in k xs)
has-priority_in k [] = refl
has-priority_in k (x ∷ xs) = grind (arith, nat_tests, has-priority_in k xs)

found_by : {W : Type 0} → (first : Bool) (p : ℕ) (x : QueueEntry W) (xs : List (QueueEntry W)) (e : QueueEntry W) → (x.priority == p) ≡ first → has x.id xs ≡ false →
    (find (λ y. y.priority == p) xs ≡ Some e → priority_in e.id xs ≡ Some e.priority) →
    (if first then Some x else find (λ y. y.priority == p) xs) ≡ Some e → priority_in e.id (x ∷ xs) ≡ Some e.priority
found_by true p x xs e test new again found = let same : x ≡ e = cc in subst (λ y. priority_in y.id (x ∷ xs) ≡ Some y.priority) same (grind (arith, nat_tests))
found_by false p x xs e test new again found = grind (arith, nat_tests, new, again found, has-priority_in e.id xs)

-- whoever is found in a queue stands in it with the priority that is found
pub priority_in-found : {W : Type 0} → (p : ℕ) (xs : List (QueueEntry W)) (e : QueueEntry W) → AreApart xs → find (λ y. y.priority == p) xs ≡ Some e → priority_in e.id xs ≡ Some e.priority
priority_in-found p [] e apart found = let wrong : ⊥ = cc in absurd wrong
priority_in-found p (x ∷ xs) e apart found = found_by (x.priority == p) p x xs e refl apart.1 (λ f. priority_in-found p xs e apart.2 f) found

moved_priority : {W : Type 0} → (k : ℕ) (found : Option (QueueEntry W)) (xs : List (QueueEntry W)) → ((e : QueueEntry W) → found ≡ Some e → priority_in e.id xs ≡ Some e.priority) →
    priority_in k (moved_behind found xs) ≡ priority_in k xs
moved_priority k None xs there = refl
moved_priority k (Some e) xs there =
    grind (arith, nat_tests, there e refl, priority_in-behind_equals k e (without e.id xs) (has-without_own e.id xs), priority_in-without k e.id xs)

-- a rotation leaves everybody in the queue
pub priority_in-rotated : {W : Type 0} → (k p : ℕ) (xs : List (QueueEntry W)) → AreApart xs → priority_in k (rotated p xs) ≡ priority_in k xs
priority_in-rotated k p xs apart = moved_priority k (find (λ y. y.priority == p) xs) xs (λ e found. priority_in-found p xs e apart found)

pub ordered-moved_behind : {W : Type 0} → (found : Option (QueueEntry W)) (xs : List (QueueEntry W)) → IsByPriority xs → IsByPriority (moved_behind found xs)
ordered-moved_behind None xs ordered = ordered
ordered-moved_behind (Some e) xs ordered = ordered-behind_equals e (without e.id xs) (ordered-without e.id xs ordered)

pub ordered-rotated : {W : Type 0} → (p : ℕ) (xs : List (QueueEntry W)) → IsByPriority xs → IsByPriority (rotated p xs)
ordered-rotated p xs ordered = ordered-moved_behind (find (λ y. y.priority == p) xs) xs ordered

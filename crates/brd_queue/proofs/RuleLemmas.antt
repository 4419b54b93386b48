-- The rule of queues in the order of priority.
use Rattle.std.proofs.Common.{◌≡◌, ◌<◌, ◌≤◌, ℕ, List, [], ◌∷◌, ◌++◌, refl, sym, ap, ◌∙◌, arith}
use Rattle.std.specs.Prelude.{Bool, true, false, nat_lt, if◌then◌else◌}
use Rattle.std.specs.List.{AllByRecursion}
use Rattle.std.proofs.lemmas.Bool.Decides.{nat_tests}
use Rattle.brd_queue.specs.declared.entry.QueueEntry.{QueueEntry}
use Rattle.brd_queue.specs.Queue.{behind_equals, without}
use Rattle.brd_queue.specs.Rule.{IsByPriority, Enters}

all_below : {W : Type 0} → (e x : QueueEntry W) (xs : List (QueueEntry W)) → e.priority < x.priority → AllByRecursion (λ other. x.priority ≤ other.priority) xs → AllByRecursion (λ other. e.priority < other.priority) xs
all_below e x [] lower all = tt
all_below e x (y ∷ ys) lower all = (omega (arith, lower, all.0), all_below e x ys lower all.1)

enters_by : {W : Type 0} → (first : Bool) (e x : QueueEntry W) (xs : List (QueueEntry W)) → nat_lt e.priority x.priority ≡ first → IsByPriority (x ∷ xs) → Enters e xs (behind_equals e xs) →
    Enters e (x ∷ xs) (if first then e ∷ x ∷ xs else x ∷ behind_equals e xs)
enters_by true e x xs test ordered rest =
    let lower : e.priority < x.priority = grind (arith, nat_tests) in
    record { before = []; behind = x ∷ xs; was = refl; is = refl; not_below = tt; below = (lower, all_below e x xs lower ordered.0) }
enters_by false e x xs test ordered rest =
    let not_lower : x.priority ≤ e.priority = grind (arith, nat_tests) in
    record { before = x ∷ rest.before; behind = rest.behind; was = ap (λ l. x ∷ l) rest.was; is = ap (λ l. x ∷ l) rest.is; not_below = (not_lower, rest.not_below); below = rest.below }

pub enters : {W : Type 0} → (e : QueueEntry W) (xs : List (QueueEntry W)) → IsByPriority xs → Enters e xs (behind_equals e xs)
enters e [] ordered = record { before = []; behind = []; was = refl; is = refl; not_below = tt; below = tt }
enters e (x ∷ xs) ordered = enters_by (nat_lt e.priority x.priority) e x xs refl ordered (enters e xs ordered.1)

-- after those that aren't below it, and before those that are
placed_before : {W : Type 0} → (e : QueueEntry W) (behind : List (QueueEntry W)) → AllByRecursion (λ other. e.priority < other.priority) behind → behind_equals e behind ≡ e ∷ behind
placed_before e [] below = refl
placed_before e (x ∷ xs) below = grind (arith, nat_tests, below.0)

placed : {W : Type 0} → (e : QueueEntry W) (before behind : List (QueueEntry W)) → AllByRecursion (λ other. other.priority ≤ e.priority) before → AllByRecursion (λ other. e.priority < other.priority) behind →
    behind_equals e (before ++ behind) ≡ before ++ e ∷ behind
placed e [] behind not_below below = placed_before e behind below
placed e (x ∷ before) behind not_below below = grind (arith, nat_tests, not_below.0, placed e before behind not_below.1 below)

pub one : {W : Type 0} → (e : QueueEntry W) (xs ys : List (QueueEntry W)) → Enters e xs ys → ys ≡ behind_equals e xs
one e xs ys rule = rule.is ∙ sym (ap (behind_equals e) rule.was ∙ placed e rule.before rule.behind rule.not_below rule.below)

-- what holds of all of a queue holds of all of it without a task
all-without : {W : Type 0} → (n id : ℕ) (xs : List (QueueEntry W)) → AllByRecursion (λ other. n ≤ other.priority) xs → AllByRecursion (λ other. n ≤ other.priority) (without id xs)
all-without n id [] all = tt
all-without n id (x ∷ xs) all = grind (arith, nat_tests, all.0, all-without n id xs all.1)

pub ordered-without : {W : Type 0} → (id : ℕ) (xs : List (QueueEntry W)) → IsByPriority xs → IsByPriority (without id xs)
ordered-without id [] ordered = tt
ordered-without id (x ∷ xs) ordered = grind (arith, nat_tests, all-without x.priority id xs ordered.0, ordered-without id xs ordered.1)

all-behind_equals : {W : Type 0} → (n : ℕ) (e : QueueEntry W) (xs : List (QueueEntry W)) → n ≤ e.priority → AllByRecursion (λ other. n ≤ other.priority) xs → AllByRecursion (λ other. n ≤ other.priority) (behind_equals e xs)
all-behind_equals n e [] own all = (own, tt)
all-behind_equals n e (x ∷ xs) own all = grind (arith, nat_tests, own, all.0, all.1, all-behind_equals n e xs own all.1)

all_from : {W : Type 0} → (e x : QueueEntry W) (xs : List (QueueEntry W)) → e.priority < x.priority → AllByRecursion (λ other. x.priority ≤ other.priority) xs → AllByRecursion (λ other. e.priority ≤ other.priority) xs
all_from e x [] lower all = tt
all_from e x (y ∷ ys) lower all = (omega (arith, lower, all.0), all_from e x ys lower all.1)

ordered_by : {W : Type 0} → (first : Bool) (e x : QueueEntry W) (xs : List (QueueEntry W)) → nat_lt e.priority x.priority ≡ first → IsByPriority (x ∷ xs) → IsByPriority (behind_equals e xs) →
    IsByPriority (if first then e ∷ x ∷ xs else x ∷ behind_equals e xs)
ordered_by true e x xs test ordered rest =
    let lower : e.priority < x.priority = grind (arith, nat_tests) in
    ((omega (arith, lower), all_from e x xs lower ordered.0), ordered)
ordered_by false e x xs test ordered rest =
    let not_lower : x.priority ≤ e.priority = grind (arith, nat_tests) in
    (all-behind_equals x.priority e xs not_lower ordered.0, rest)

pub ordered-behind_equals : {W : Type 0} → (e : QueueEntry W) (xs : List (QueueEntry W)) → IsByPriority xs → IsByPriority (behind_equals e xs)
ordered-behind_equals e [] ordered = (tt, tt)
ordered-behind_equals e (x ∷ xs) ordered = ordered_by (nat_lt e.priority x.priority) e x xs refl ordered (ordered-behind_equals e xs ordered.1)

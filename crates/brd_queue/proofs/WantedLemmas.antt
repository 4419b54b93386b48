-- What holds of all that a queue's tasks want still does when one of them comes, leaves or is given a priority.
use Rattle.std.proofs.Common.{ℕ, zero, suc, List, [], ◌∷◌, ◌++◌}
use Rattle.std.specs.Prelude.{Bool, ◌==◌, nat_lt, remove, find, Option, None, Some, IfSome}
use Rattle.std.specs.List.{AllByRecursion}
use Rattle.std.specs.Option.{option_map}
use Rattle.std.proofs.lemmas.Bool.{cond_both}
use Rattle.brd_queue.specs.declared.entry.QueueEntry.{QueueEntry}
use Rattle.brd_queue.specs.declared.entry.QueueOrder.{QueueOrder}
use Rattle.brd_queue.specs.declared.entry.QueueOrder.TheVariants.{Arrival, Priority}
use Rattle.brd_queue.specs.Queue.{behind_equals, entered, without, placed, moved_behind, with_priority, renumbered, reordered}

abbrev pub AllWant : {W : Type 0} → (W → Type 0) → List (QueueEntry W) → Type 0
AllWant P xs = AllByRecursion (λ e. P e.wanted) xs

pub want-implied : {W : Type 0} → (P Q : W → Type 0) (xs : List (QueueEntry W)) → ((w : W) → P w → Q w) → AllWant P xs → AllWant Q xs
want-implied P Q [] implies all = tt
want-implied P Q (x ∷ xs) implies all = (implies x.wanted all.0, want-implied P Q xs implies all.1)

pub want-without : {W : Type 0} → (P : W → Type 0) (id : ℕ) (xs : List (QueueEntry W)) → AllWant P xs → AllWant P (without id xs)
want-without P id [] all = tt
want-without P id (x ∷ xs) all =
    let rest = want-without P id xs all.1 in
    cond_both (x.id == id) _ _ (AllWant P) (λ own. rest) (λ other. (all.0, rest))

want-append : {W : Type 0} → (P : W → Type 0) (e : QueueEntry W) (xs : List (QueueEntry W)) → P e.wanted → AllWant P xs → AllWant P (xs ++ e ∷ [])
want-append P e [] own all = (own, tt)
want-append P e (x ∷ xs) own all = (all.0, want-append P e xs own all.1)

want-behind_equals : {W : Type 0} → (P : W → Type 0) (e : QueueEntry W) (xs : List (QueueEntry W)) → P e.wanted → AllWant P xs → AllWant P (behind_equals e xs)
want-behind_equals P e [] own all = (own, tt)
want-behind_equals P e (x ∷ xs) own all =
    let rest = want-behind_equals P e xs own all.1 in
    cond_both (nat_lt e.priority x.priority) _ _ (AllWant P) (λ before. (own, all)) (λ behind. (all.0, rest))

pub want-entered : {W : Type 0} → (P : W → Type 0) (order : QueueOrder) (e : QueueEntry W) (xs : List (QueueEntry W)) → P e.wanted → AllWant P xs →
    AllWant P (entered order e xs)
want-entered P Arrival e xs own all = want-append P e xs own all
want-entered P Priority e xs own all = want-behind_equals P e xs own all

pub want-placed : {W : Type 0} → (P : W → Type 0) (order : QueueOrder) (e : QueueEntry W) (xs : List (QueueEntry W)) → P e.wanted → AllWant P xs →
    AllWant P (placed order e xs)
want-placed P order e xs own all = want-entered P order e (without e.id xs) own (want-without P e.id xs all)

pub want-found : {W : Type 0} → (P : W → Type 0) (test : QueueEntry W → Bool) (xs : List (QueueEntry W)) → AllWant P xs → IfSome (find test xs) (λ e. P e.wanted)
want-found P test [] all = tt
want-found P test (x ∷ xs) all =
    cond_both (test x) _ _ (λ (found : Option (QueueEntry _)). IfSome found (λ e. P e.wanted)) (λ it. all.0) (λ not. want-found P test xs all.1)

pub want-remove : {W : Type 0} → (P : W → Type 0) (i : ℕ) (xs : List (QueueEntry W)) → AllWant P xs → AllWant P (remove xs i)
want-remove P zero [] all = tt
want-remove P (suc i) [] all = tt
want-remove P zero (x ∷ xs) all = all.1
want-remove P (suc i) (x ∷ xs) all = (all.0, want-remove P i xs all.1)

pub want-renumbered : {W : Type 0} → (P : W → Type 0) (id priority : ℕ) (xs : List (QueueEntry W)) → AllWant P xs → AllWant P (renumbered id priority xs)
want-renumbered P id priority [] all = tt
want-renumbered P id priority (x ∷ xs) all =
    let rest = want-renumbered P id priority xs all.1 in
    cond_both (x.id == id) _ _ (AllWant P) (λ own. (all.0, rest)) (λ other. (all.0, rest))

want-moved : {W : Type 0} → (P : W → Type 0) (priority : ℕ) (found : Option (QueueEntry W)) (xs : List (QueueEntry W)) → IfSome found (λ e. P e.wanted) →
    AllWant P xs →
    AllWant P (moved_behind (option_map (with_priority priority) found) xs)
want-moved P priority None xs own all = all
want-moved P priority (Some e) xs own all = want-placed P Priority (with_priority priority e) xs own all

pub want-reordered : {W : Type 0} → (P : W → Type 0) (order : QueueOrder) (id priority : ℕ) (xs : List (QueueEntry W)) → AllWant P xs →
    AllWant P (reordered order id priority xs)
want-reordered P Arrival id priority xs all = want-renumbered P id priority xs all
want-reordered P Priority id priority xs all =
    want-moved P priority (find (λ x. x.id == id) xs) xs (want-found P (λ x. x.id == id) xs all) all

-- Passing one entry of a queue after the other, as a loop does.
use Rattle.std.proofs.Common.{◌≡◌, ℕ, ◌+◌, ◌<◌, List, [], ◌∷◌, ◌++◌, length, take, drop, refl, sym, ap, ◌∙◌, append_assoc, arith}
use Rattle.std.specs.Prelude.{◌==◌, true, false}
use Rattle.std.proofs.Math.ListN.{get_or}
use Rattle.std.proofs.lemmas.List.{take_more, drop_more}
use Rattle.std.proofs.lemmas.Bool.Decides.{nat_tests}
use Rattle.brd_queue.specs.declared.entry.QueueEntry.{QueueEntry}
use Rattle.brd_queue.specs.Queue.{has, without}

-- what is left at a place, by its first element
pub split : {X : Type 0} → (xs : List X) (i : ℕ) (x : X) → i < length xs → x ≡ get_or xs i x → drop i xs ≡ x ∷ drop (i + 1) xs
split xs i x lt is = drop_more xs i x lt ∙ ap (λ y. y ∷ drop (i + 1) xs) (sym is)

-- what was passed and the next entry, before a rest
joined : {W : Type 0} → (xs rest : List (QueueEntry W)) (i : ℕ) (x : QueueEntry W) → i < length xs → x ≡ get_or xs i x → take i xs ++ x ∷ rest ≡ take (i + 1) xs ++ rest
joined xs rest i x lt is =
    sym (ap (λ l. l ++ rest) (take_more xs i x lt ∙ ap (λ y. take i xs ++ y ∷ []) (sym is)) ∙ append_assoc (take i xs) (x ∷ []) rest)

pub has_goes_on : {W : Type 0} → (id : ℕ) (xs : List (QueueEntry W)) (i : ℕ) (x : QueueEntry W) → i < length xs → x ≡ get_or xs i x → (x.id ≡ id → ⊥)
    → has id xs ≡ has id (drop i xs) → has id xs ≡ has id (drop (i + 1) xs)
has_goes_on id xs i x lt is other so_far =
    let fails : (x.id == id) ≡ false = grind (arith, nat_tests) in
    so_far ∙ ap (has id) (split xs i x lt is) ∙ rw fails refl

pub has_stops : {W : Type 0} → (id : ℕ) (xs : List (QueueEntry W)) (i : ℕ) (x : QueueEntry W) → i < length xs → x ≡ get_or xs i x → x.id ≡ id
    → has id xs ≡ has id (drop i xs) → true ≡ has id xs
has_stops id xs i x lt is same so_far =
    let passes : (x.id == id) ≡ true = grind (arith, nat_tests) in
    sym (so_far ∙ ap (has id) (split xs i x lt is) ∙ rw passes refl)

pub without_goes_on : {W : Type 0} → (id : ℕ) (xs : List (QueueEntry W)) (i : ℕ) (x : QueueEntry W) → i < length xs → x ≡ get_or xs i x → (x.id ≡ id → ⊥)
    → without id xs ≡ take i xs ++ without id (drop i xs) → without id xs ≡ take (i + 1) xs ++ without id (drop (i + 1) xs)
without_goes_on id xs i x lt is other so_far =
    let fails : (x.id == id) ≡ false = grind (arith, nat_tests) in
    let stays : without id (x ∷ drop (i + 1) xs) ≡ x ∷ without id (drop (i + 1) xs) = rw fails refl in
    so_far ∙ ap (λ l. take i xs ++ l) (ap (without id) (split xs i x lt is) ∙ stays) ∙ joined xs (without id (drop (i + 1) xs)) i x lt is

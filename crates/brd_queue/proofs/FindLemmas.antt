-- Finding the first element with a number, one element after the other, as a loop does. What is left at a place is said
-- by its first element.
use Rattle.std.proofs.Common.{◌≡◌, ℕ, ◌+◌, ◌≤◌, List, ◌∷◌, length, drop, refl, sym, ap, ◌∙◌, arith}
use Rattle.std.specs.Prelude.{◌==◌, true, false, find, None, Some}
use Rattle.std.proofs.lemmas.List.{drop_all}
use Rattle.std.proofs.lemmas.Bool.Decides.{nat_tests}

-- an element with another number is passed
pub find_goes_on : {X : Type 0} (key : X → ℕ) (n : ℕ) (xs : List X) (i : ℕ) (x : X) → drop i xs ≡ x ∷ drop (i + 1) xs → (key x ≡ n → ⊥)
    → find (λ y. key y == n) xs ≡ find (λ y. key y == n) (drop i xs) → find (λ y. key y == n) xs ≡ find (λ y. key y == n) (drop (i + 1) xs)
find_goes_on key n xs i x split other so_far =
    let fails : (key x == n) ≡ false = grind (arith, nat_tests) in
    so_far ∙ ap (find (λ y. key y == n)) split ∙ rw fails refl

-- an element with the number is found
pub find_stops : {X : Type 0} (key : X → ℕ) (n : ℕ) (xs : List X) (i : ℕ) (x : X) → drop i xs ≡ x ∷ drop (i + 1) xs → key x ≡ n
    → find (λ y. key y == n) xs ≡ find (λ y. key y == n) (drop i xs) → Some x ≡ find (λ y. key y == n) xs
find_stops key n xs i x split same so_far =
    let passes : (key x == n) ≡ true = grind (arith, nat_tests) in
    sym (so_far ∙ ap (find (λ y. key y == n)) split ∙ rw passes refl)

-- where all are passed, none is found
pub find_ends : {X : Type 0} (key : X → ℕ) (n : ℕ) (xs : List X) (i : ℕ) → length xs ≤ i → find (λ y. key y == n) xs ≡ find (λ y. key y == n) (drop i xs)
    → None ≡ find (λ y. key y == n) xs
find_ends key n xs i le so_far = sym (so_far ∙ ap (find (λ y. key y == n)) (drop_all i xs le))

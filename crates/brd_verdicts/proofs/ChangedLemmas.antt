-- A list of which the first element that passes is changed, by its place.
use Rattle.std.proofs.Common.{◌≡◌, inl, inr, ℕ, zero, suc, ◌+◌, ◌<◌, ◌≤◌, List, [], ◌∷◌, ◌++◌, length, refl, sym, ap, subst, ◌∙◌, arith}
use Rattle.std.specs.Prelude.{Bool, true, false, not, nat_lt, if◌then◌else◌, slice_index_or, slice_set, Option, None, Some}
use Rattle.std.specs.List.{position, position_or_len}
use Rattle.std.proofs.lemmas.Bool.{cases_lt, le-ltb, lt-ltb}
use Rattle.brd_verdicts.specs.Changed.{changed, old_at, put_at}

-- the list with the element at a place changed
abbrev changed_at : {X : Type 0} → (X → X) → X → Option ℕ → List X → List X
changed_at change new at xs = put_at at new (change (old_at at new xs)) xs

-- the place, where it is one of the list
abbrev place : ℕ → ℕ → Option ℕ
place at len = if nat_lt at len then Some at else None

place-next : (at len : ℕ) → nat_lt (suc at) (suc len) ≡ nat_lt at len
place-next at len = elim (cases_lt at len) [
  | inl less ↦ lt-ltb (suc at) (suc len) (omega (arith, less)) ∙ sym (lt-ltb at len less)
  | inr not ↦ le-ltb (suc at) (suc len) (omega (arith, not)) ∙ sym (le-ltb at len not)
]

at-next : {X : Type 0} (change : X → X) (new x : X) (xs : List X) (at : ℕ) (b : Bool) →
    x ∷ changed_at change new (if b then Some at else None) xs
    ≡ changed_at change new (if b then Some (suc at) else None) (x ∷ xs)
at-next change new x xs at true = refl
at-next change new x xs at false = refl

by-test : {X : Type 0} (change : X → X) (new x : X) (xs rest : List X) (at len : ℕ) (b : Bool) →
    rest ≡ changed_at change new (place at len) xs →
    (if b then change x ∷ xs else x ∷ rest)
    ≡ changed_at change new (place (if not b then 1 + at else 0) (suc len)) (x ∷ xs)
by-test change new x xs rest at len true is =
    ap (λ (b : Bool). changed_at change new (if b then Some 0 else None) (x ∷ xs)) (sym (lt-ltb 0 (suc len) (omega arith)))
by-test change new x xs rest at len false is =
    let one : suc at ≡ 1 + at = omega arith in
    ap (λ ys. x ∷ ys) is ∙ at-next change new x xs at (nat_lt at len)
    ∙ ap (λ (b : Bool). changed_at change new (if b then Some (suc at) else None) (x ∷ xs)) (sym (place-next at len))
    ∙ ap (λ (k : ℕ). changed_at change new (place k (suc len)) (x ∷ xs)) one

pub changed-place : {X : Type 0} (test : X → Bool) (change : X → X) (new : X) (xs : List X) →
    changed test change new xs ≡ changed_at change new (position test xs) xs
changed-place test change new [] = refl
changed-place test change new (x ∷ xs) =
    by-test change new x xs (changed test change new xs) (position_or_len test xs) (length xs) (test x)
    (changed-place test change new xs)

-- what was found, what was there, what it becomes, and the list with that
pub changed-by : {X : Type 0} (test : X → Bool) (change : X → X) (new : X) (xs ys : List X) (at : Option ℕ)
    (old other : X) → at ≡ position test xs → old ≡ old_at at new xs → other ≡ change old →
    ys ≡ put_at at new other xs → ys ≡ changed test change new xs
changed-by test change new xs ys at old other found was becomes is =
    is ∙ ap (λ x. put_at at new x xs) (becomes ∙ ap change was)
    ∙ ap (λ p. changed_at change new p xs) found ∙ sym (changed-place test change new xs)

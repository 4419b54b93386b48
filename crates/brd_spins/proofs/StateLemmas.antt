-- Lists of registers, and of what is known of processors.
use Rattle.std.proofs.Common.{◌≡◌, ◌⊎◌, inl, inr, ℕ, zero, suc, ◌+◌, ◌<◌, ◌≤◌, List, [], ◌∷◌, ◌++◌, length, take, refl, sym, ap, subst, ◌∙◌, arith}
use Rattle.std.specs.Prelude.{Contains, min, Some, slice_get, slice_index_or}
use Rattle.std.proofs.lemmas.List.{take_more}
use Rattle.std.proofs.lemmas.List.Elements.{Contains-append_left, Contains-get_or, Contains-push, Contains-push_cases}
use Rattle.std.proofs.lemmas.Bool.{cases_lt}
use Rattle.std.proofs.Math.Nat.{le-min, le_refl, min-le_left, min-le_right}
use Rattle.brd_spins.specs.Spins.{IsLeastPlace}
use Rattle.brd_exec.specs.State.{State}

pub first-none : (states : List State) (x : State) → Contains (take 0 states) x → ⊥
first-none states x has = omega (arith, has.1)

pub one-more : (states : List State) (x it : State) (i : ℕ) → i < length states → it ≡ slice_index_or states i it → (it ≡ x → ⊥) →
    (Contains (take i states) x → ⊥) → Contains (take (i + 1) states) x → ⊥
one-more states x it i less is other none has =
    elim (Contains-push_cases (take i states) it x
    (subst (λ (them : List State). Contains them x) (take_more states i it less ∙ ap (λ (y : State). take i states ++ y ∷ []) (sym is)) has)) [
      | inl before ↦ none before
      | inr same ↦ other same
    ]

pub here : (states : List State) (x it : State) (i : ℕ) → i < length states → it ≡ slice_index_or states i it → it ≡ x → Contains states x
here states x it i less is same = subst (λ (y : State). Contains states y) (sym is ∙ same) (Contains-get_or states i it less)

-- what a list has with one more at its end
pub get-push : {X : Type 0} (xs : List X) (x y : X) (k : ℕ) → slice_get (xs ++ x ∷ []) k ≡ Some y → (slice_get xs k ≡ Some y) ⊎ ((k ≡ length xs) × (x ≡ y))
get-push [] x y zero is = inr (refl, cc)
get-push [] x y (suc k) is = cc
get-push (z ∷ zs) x y zero is = inl is
get-push (z ∷ zs) x y (suc k) is = elim (get-push zs x y k is) [
  | inl before ↦ inl before
  | inr last ↦ inr (ap suc last.0, last.1)
]

pub get-within : {X : Type 0} (xs : List X) (x : X) (k : ℕ) → slice_get xs k ≡ Some x → k < length xs
get-within [] x k is = cc
get-within (z ∷ zs) x zero is = omega arith
get-within (z ∷ zs) x (suc k) is = let rest : k < length zs = get-within zs x k is in omega (arith, rest)

pub get-at : {X : Type 0} (xs : List X) (x : X) (k : ℕ) → k < length xs → slice_get xs k ≡ Some (slice_index_or xs k x)
get-at [] x k less = absurd (omega (arith, less))
get-at (z ∷ zs) x zero less = refl
get-at (z ∷ zs) x (suc k) less = get-at zs x k (omega (arith, less))

-- what a list has stays where one comes at its end, and that one is the last
pub get-before : {X : Type 0} (xs : List X) (x y : X) (k : ℕ) → slice_get xs k ≡ Some y → slice_get (xs ++ x ∷ []) k ≡ Some y
get-before [] x y k is = cc
get-before (z ∷ zs) x y zero is = is
get-before (z ∷ zs) x y (suc k) is = get-before zs x y k is

pub get-last : {X : Type 0} (xs : List X) (x : X) → slice_get (xs ++ x ∷ []) (length xs) ≡ Some x
get-last [] x = refl
get-last (z ∷ zs) x = get-last zs x

-- what is so of whatever a list has at a place is so
pub at-place : {X P : Type 0} (xs : List X) (k : ℕ) → k < length xs → ((x : X) → slice_get xs k ≡ Some x → P) → P
at-place [] k less then = absurd (omega (arith, less))
at-place (z ∷ zs) zero less then = then z refl
at-place (z ∷ zs) (suc k) less then = at-place zs k (omega (arith, less)) then

-- the least place of the first states and one more: that of these, or that one's
pub least-more : (states : List State) (it : State) (i least next : ℕ) → i < length states → it ≡ slice_index_or states i it →
    (i ≡ 0 → least ≡ 4294967295) → (1 ≤ i → IsLeastPlace (take i states) least) → it.pc ≤ 4294967295 → next ≡ min least it.pc →
    IsLeastPlace (take (i + 1) states) next
least-more states it i least next less is first before few next_is = elim (cases_lt it.pc least) [
  | inl lower ↦
      let under : it.pc ≤ least = omega (arith, lower) in
      let least_is : it.pc ≤ min least it.pc = le-min under (le_refl it.pc) in
      let same : it.pc ≡ next = omega (arith, next_is, least_is, min-le_right least it.pc) in
      record { state = it; some = subst (λ (them : List State). Contains them it) (sym more) (Contains-push (take i states) it); here = same; least = low }
  | inr higher ↦
      let least_is : least ≤ min least it.pc = le-min (le_refl least) higher in
      let same : least ≡ next = omega (arith, next_is, least_is, min-le_left least it.pc) in
      elim (cases_lt 0 i) [
        | inl some ↦
            let b = before some in
            record {
              state = b.state;
              some = subst (λ (them : List State). Contains them b.state) (sym more) (Contains-append_left (take i states) (it ∷ []) b.state b.some);
              here = b.here ∙ same;
              least = low;
            }
        | inr none ↦
            let start : least ≡ 4294967295 = first (omega (arith, none)) in
            record {
              state = it;
              some = subst (λ (them : List State). Contains them it) (sym more) (Contains-push (take i states) it);
              here = omega (arith, same, start, few, higher);
              least = low;
            }
      ]
]
  where
    more : take (i + 1) states ≡ take i states ++ it ∷ []
    more = take_more states i it less ∙ ap (λ (y : State). take i states ++ y ∷ []) (sym is)

    some-before : (other : State) → Contains (take i states) other → 1 ≤ i
    some-before other has = elim (cases_lt 0 i) [
      | inl some ↦ some
      | inr none ↦
          let zero_is : i ≡ 0 = omega (arith, none) in
          absurd (first-none states other (subst (λ (n : ℕ). Contains (take n states) other) zero_is has))
    ]

    low : (other : State) → Contains (take (i + 1) states) other → next ≤ other.pc
    low other has = elim (Contains-push_cases (take i states) it other (subst (λ (them : List State). Contains them other) more has)) [
      | inl old ↦
          let lower = (before (some-before other old)).least other old in
          omega (arith, next_is, min-le_left least it.pc, lower)
      | inr same ↦ omega (arith, next_is, min-le_right least it.pc, ap (λ (s : State). s.pc) same)
    ]

-- What is marked is what the marks contain.
use Rattle.std.proofs.Common.{◌≡◌, ℕ, zero, suc, ◌<◌, List, [], ◌∷◌, ◌++◌, length, refl, sym, arith, inl, inr}
use Rattle.std.specs.Prelude.{Bool, true, false, ◌==◌, Decides, Contains, slice_index_or}
use Rattle.std.proofs.lemmas.Bool.{cases_Bool, false≢true}
use Rattle.std.proofs.lemmas.Bool.Decides.{nat_tests}
use Rattle.brd_debug.specs.Marks.{is_marked}

found : (marks : List ℕ) (address : ℕ) → is_marked marks address ≡ true → Contains marks address
found [] address is = absurd (false≢true is)
found (mark ∷ marks) address is = elim (cases_Bool (mark == address)) [
  | inl same ↦ (zero, omega arith, grind (arith, nat_tests, same))
  | inr other ↦
      let rest = found marks address (grind (arith, nat_tests, is, other)) in
      (suc rest.0, omega (arith, rest.1), rest.2)
]

there : (marks : List ℕ) (address k : ℕ) → k < length marks → slice_index_or marks k address ≡ address → is_marked marks address ≡ true
there [] address k within is = absurd (omega (arith, within))
there (mark ∷ marks) address zero within is = grind (arith, nat_tests, is)
there (mark ∷ marks) address (suc k) within is = grind (arith, nat_tests, there marks address k (omega (arith, within)) is)

pub marked-decides : (marks : List ℕ) (address : ℕ) → Decides (is_marked marks address) (Contains marks address)
marked-decides marks address = (found marks address, λ has. there marks address has.0 has.1 has.2)

-- a test of whether they contain an address
pub is-marked : (test : Bool) (marks : List ℕ) (address : ℕ) → Decides test (Contains marks address) → test ≡ is_marked marks address
is-marked true marks address decides = sym ((marked-decides marks address).1 (decides.0 refl))
is-marked false marks address decides = elim (cases_Bool (is_marked marks address)) [
  | inl marked ↦ absurd (false≢true (decides.1 ((marked-decides marks address).0 marked)))
  | inr unmarked ↦ sym unmarked
]

pub marked-last : (marks : List ℕ) (address : ℕ) → true ≡ is_marked (marks ++ address ∷ []) address
marked-last [] address = grind (arith, nat_tests)
marked-last (mark ∷ marks) address = grind (arith, nat_tests, marked-last marks address)

-- A bit that is set.
use Rattle.std.proofs.Common.{◌≡◌, ◌<◌, ◌+◌, ◌-◌, ◌*◌, ◌%◌, ◌^◌, ℕ, refl, arith, subst, sym, bit_or, w8}
use Rattle.std.specs.Prelude.{Bool, true, false, ◌==◌, if◌then◌else◌}
use Rattle.std.specs.Int.{bit_at}
use Rattle.std.proofs.lemmas.Bool.Decides.{nat_tests}
use Rattle.std.proofs.lemmas.Nat.Bits.{bit_at_set_same, bit_at_set_other}

set-by : (here : Bool) (n cpu j : ℕ) → (j + 1 == cpu) ≡ here → 0 < cpu → cpu < 9 → bit_at (bit_or n (1 * 2 ^ (cpu - 1) % 2 ^ 8)) j ≡ (if here then 1 else bit_at n j)
set-by true n cpu j test there within =
    let at : cpu - 1 ≡ j = grind (arith, nat_tests, test) in
    subst (λ k. bit_at (bit_or n (1 * 2 ^ k % 2 ^ 8)) j ≡ 1) (sym at) (bit_at_set_same w8 n j (omega (arith, at, within)))
set-by false n cpu j test there within = bit_at_set_other w8 n (cpu - 1) (omega (arith, within)) j (grind (arith, nat_tests, test, there))

pub set-bit : (n cpu j : ℕ) → 0 < cpu → cpu < 9 → bit_at (bit_or n (1 * 2 ^ (cpu - 1) % 2 ^ 8)) j ≡ (if j + 1 == cpu then 1 else bit_at n j)
set-bit n cpu j there within = set-by (j + 1 == cpu) n cpu j refl there within

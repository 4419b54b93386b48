-- The halves that %hi and %lo stand for.
use Rattle.std.proofs.Common.{◌≡◌, ℕ, ◌+◌, ◌-◌, ◌*◌, ◌/◌, ◌%◌, ◌^◌, ◌<◌, ◌≤◌, ap, ◌∙◌, refl, inl, inr, arith}
use Rattle.std.specs.Prelude.{ℤ, pos, negsuc, ◌+ℤ◌}
use Rattle.std.specs.Int.{int_div_euclid}
use Rattle.std.proofs.lemmas.Bool.{cases_lt, le-leb}
use Rattle.std.proofs.lemmas.Int.{ints}
use Rattle.brd_asm.specs.Values.{modulo, high_half, low_half, signed_half}
use Rattle.brd_asm.proofs.StretchLemmas.{leb_above}

-- what two halves, the low one read as signed, add up to
sum_of : ℕ → ℕ → ℤ
sum_of high low = pos (65536 * high) +ℤ signed_half low

small_low : (high low : ℕ) → low < 0x8000 → sum_of high low ≡ pos (65536 * high + low)
unfolding sum_of
small_low high low lt = rw (leb_above 0x8000 low lt) refl

large_low : (high low n : ℕ) → 0x8000 ≤ low → 65536 * high + low ≡ n + 65536 → sum_of high low ≡ pos n
unfolding sum_of
large_low high low n le e = rw (le-leb 0x8000 low le) (omega (arith, ints))

below_zero : (low n : ℕ) → 0x8000 ≤ low → low + n + 1 ≡ 65536 → sum_of 0 low ≡ negsuc n
unfolding sum_of
below_zero low n le e = rw (le-leb 0x8000 low le) (omega (arith, ints))

-- m are the 32 bits of the value
sum_is : (m high low : ℕ) → m < 2 ^ 32 → high ≡ (m + 0x8000) / 65536 % 65536 → low ≡ m % 65536 → modulo (sum_of high low) (2 ^ 32) ≡ m
sum_is m high low small high_is low_is =
    elim (cases_lt low 0x8000) [
      | inl lt ↦ ap (λ (z : ℤ). modulo z (2 ^ 32)) (small_low high low lt) ∙ omega arith
      | inr le ↦
          elim (cases_lt 0 high) [
            | inl some ↦ ap (λ (z : ℤ). modulo z (2 ^ 32)) (large_low high low (65536 * high + low - 65536) le (omega arith)) ∙ omega arith
            | inr none ↦
                let zero : high ≡ 0 = omega arith in
                ap (λ (z : ℤ). modulo z (2 ^ 32)) (ap (λ (h : ℕ). sum_of h low) zero ∙ below_zero low (65535 - low) le (omega arith)) ∙ omega arith
          ]
    ]

high_near : (a : ℕ) → a < 0x8000 → high_half (negsuc a) ≡ 0
high_near a lt =
    let e : negsuc a +ℤ pos 0x8000 ≡ pos (0x7fff - a) = omega (arith, ints) in
    ap (λ (z : ℤ). modulo (int_div_euclid z (pos 0x10000)) (2 ^ 16)) e ∙ omega arith

high_far : (a : ℕ) → 0x8000 ≤ a → high_half (negsuc a) ≡ 65535 - (a - 0x8000) / 65536 % 65536
high_far a le =
    let e : negsuc a +ℤ pos 0x8000 ≡ negsuc (a - 0x8000) = omega (arith, ints) in
    ap (λ (z : ℤ). modulo (int_div_euclid z (pos 0x10000)) (2 ^ 16)) e ∙ omega arith

high_below : (a : ℕ) → high_half (negsuc a) ≡ (2 ^ 32 - 1 - a % 2 ^ 32 + 0x8000) / 65536 % 65536
high_below a =
    elim (cases_lt a 0x8000) [
      | inl lt ↦ high_near a lt ∙ omega arith
      | inr le ↦ high_far a le ∙ omega arith
    ]

pub halves : (e : ℤ) → modulo (pos (65536 * high_half e) +ℤ signed_half (low_half e)) (2 ^ 32) ≡ modulo e (2 ^ 32)
unfolding sum_of
halves (pos a) = sum_is (a % 2 ^ 32) (high_half (pos a)) (low_half (pos a)) (omega arith) (omega arith) (omega arith)
halves (negsuc a) = sum_is (2 ^ 32 - 1 - a % 2 ^ 32) (high_half (negsuc a)) (low_half (negsuc a)) (omega arith) (high_below a) (omega arith)

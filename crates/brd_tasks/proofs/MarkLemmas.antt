-- What stands in the marks after a change, and which is the first.
use Rattle.std.proofs.Common.{◌≡◌, ◌<◌, ◌≤◌, ◌≢◌, ℕ, ◌+◌, ◌*◌, ◌/◌, ◌%◌, ◌^◌, List, length, refl, sym, ap, ◌∙◌, bit_and, bit_or, arith}
use Rattle.std.specs.Prelude.{Bool, true, false, ◌==◌, ◌&&◌, nat_lt, if◌then◌else◌, slice_index_or, slice_set}
use Rattle.std.specs.Int.{bit_at, bit_not, w64, trailing_zeros}
use Rattle.std.proofs.lemmas.Bool.Decides.{nat_tests}
use Rattle.std.proofs.lemmas.Nat.Bits.{bit_at_set_same, bit_at_set_other, bit_at_clear_same, bit_at_clear_other, bit_at-trailing_zeros}
use Rattle.std.proofs.lemmas.Grind.{get_or-set_at}
use Rattle.std.proofs.lemmas.List.{get_or-set_other}
use Rattle.brd_tasks.specs.Marks.{word_of, mark_at, with_mark, without_mark}

low : (n : ℕ) → n % 64 < 64
low n = omega arith

-- a mark's place tells whose it is
same-place : (cpu p c q : ℕ) → p < 256 → q < 256 → word_of cpu p ≡ word_of c q → p % 64 ≡ q % 64 → (cpu ≡ c) × (p ≡ q)
same-place cpu p c q small other word bit = (omega (arith, small, other, word, bit), omega (arith, small, other, word, bit))

place-small : (cpu p : ℕ) → cpu < 9 → p < 256 → word_of cpu p < 36
place-small cpu p listed small = omega (arith, listed, small)

-- a bit of a word that may have been written
written : (word bit : Bool) (cpu p c q value : ℕ) (n : ℕ) (marks : List ℕ) → (word_of cpu p == word_of c q) ≡ word → (p % 64 == q % 64) ≡ bit → length marks ≡ 36 → cpu < 9 → p < 256 → q < 256 →
    bit_at n (p % 64) ≡ value → ((i : ℕ) → i < 64 → i ≢ p % 64 → bit_at n i ≡ bit_at (slice_index_or marks (word_of cpu p) 0) i) →
    mark_at (slice_set marks (word_of cpu p) n) c q ≡ (if (cpu == c) && (p == q) then value else mark_at marks c q)
written true true cpu p c q value n marks word bit long listed small other own rest =
    let word_is : word_of cpu p ≡ word_of c q = grind (arith, nat_tests, word) in
    let bit_is : p % 64 ≡ q % 64 = grind (arith, nat_tests, bit) in
    let same = same-place cpu p c q small other word_is bit_is in
    let read : slice_index_or (slice_set marks (word_of cpu p) n) (word_of c q) 0 ≡ n = get_or-set_at marks (word_of cpu p) (word_of c q) n 0 (sym word_is) (omega (arith, place-small cpu p listed small, long)) in
    let left : mark_at (slice_set marks (word_of cpu p) n) c q ≡ value = ap (λ w. bit_at w (q % 64)) read ∙ ap (bit_at n) (sym bit_is) ∙ own in
    left ∙ grind (arith, nat_tests, same.0, same.1)
written true false cpu p c q value n marks word bit long listed small other own rest =
    let word_is : word_of cpu p ≡ word_of c q = grind (arith, nat_tests, word) in
    let apart : q % 64 ≢ p % 64 = λ is. grind (arith, nat_tests, bit, is) in
    let read : slice_index_or (slice_set marks (word_of cpu p) n) (word_of c q) 0 ≡ n = get_or-set_at marks (word_of cpu p) (word_of c q) n 0 (sym word_is) (omega (arith, place-small cpu p listed small, long)) in
    let left : mark_at (slice_set marks (word_of cpu p) n) c q ≡ mark_at marks c q =
    ap (λ w. bit_at w (q % 64)) read ∙ rest (q % 64) (low q) apart ∙ ap (λ w. bit_at (slice_index_or marks w 0) (q % 64)) word_is in
    let other_p : (p == q) ≡ false = grind (arith, nat_tests, bit) in
    left ∙ grind (arith, nat_tests, other_p)
written false bit_same cpu p c q value n marks word bit long listed small other own rest =
    let apart : word_of c q ≢ word_of cpu p = λ is. grind (arith, nat_tests, word, is) in
    let left : mark_at (slice_set marks (word_of cpu p) n) c q ≡ mark_at marks c q = ap (λ w. bit_at w (q % 64)) (get_or-set_other marks (word_of cpu p) (word_of c q) n 0 apart) in
    let not_both : ((cpu == c) && (p == q)) ≡ false = grind (arith, nat_tests, word) in
    left ∙ grind (arith, nat_tests, not_both)

pub mark_at-with : (cpu p c q : ℕ) (marks : List ℕ) → length marks ≡ 36 → cpu < 9 → p < 256 → q < 256 →
    mark_at (with_mark cpu p marks) c q ≡ (if (cpu == c) && (p == q) then 1 else mark_at marks c q)
mark_at-with cpu p c q marks long listed small other =
    let word : ℕ = slice_index_or marks (word_of cpu p) 0 in
    written (word_of cpu p == word_of c q) (p % 64 == q % 64) cpu p c q 1 (bit_or (slice_index_or marks (word_of cpu p) 0) (1 * 2 ^ (p % 64) % 2 ^ 64)) marks refl refl long listed small other
    (bit_at_set_same w64 word (p % 64) (low p)) (λ i within apart. bit_at_set_other w64 word (p % 64) (low p) i apart)

pub mark_at-without : (cpu p c q : ℕ) (marks : List ℕ) → length marks ≡ 36 → cpu < 9 → p < 256 → q < 256 →
    mark_at (without_mark cpu p marks) c q ≡ (if (cpu == c) && (p == q) then 0 else mark_at marks c q)
mark_at-without cpu p c q marks long listed small other =
    let word : ℕ = slice_index_or marks (word_of cpu p) 0 in
    written (word_of cpu p == word_of c q) (p % 64 == q % 64) cpu p c q 0 (bit_and (slice_index_or marks (word_of cpu p) 0) (bit_not w64 (1 * 2 ^ (p % 64) % 2 ^ 64))) marks refl refl long listed small other
    (bit_at_clear_same w64 word (p % 64) (low p)) (λ i within apart. bit_at_clear_other w64 word (p % 64) (low p) i within apart)

word-below : (passed : Bool) (marks : List ℕ) (cpu i at q : ℕ) → nat_lt q (i * 64) ≡ passed → at ≡ cpu * 4 + i * 64 / 64 → ((q : ℕ) → q < i * 64 → mark_at marks cpu q ≡ 0) →
    (t : ℕ) → q < i * 64 + t → t ≤ 64 → ((b : ℕ) → b < t → bit_at (slice_index_or marks at 0) b ≡ 0) → mark_at marks cpu q ≡ 0
word-below true marks cpu i at q test at_is before t below within zeros = before q (grind (arith, nat_tests, test))
word-below false marks cpu i at q test at_is before t below within zeros =
    let from : i * 64 ≤ q = grind (arith, nat_tests, test) in
    let word : word_of cpu q ≡ at = omega (arith, at_is, from, below, within) in
    ap (λ w. bit_at (slice_index_or marks w 0) (q % 64)) word ∙ zeros (q % 64) (omega (arith, from, below, within))

-- the lowest mark of the first word that has one
pub word-first : (marks : List ℕ) (cpu i at : ℕ) → at ≡ cpu * 4 + i * 64 / 64 → i < 4 → 0 < slice_index_or marks at 0 → slice_index_or marks at 0 < 2 ^ 64 →
    ((q : ℕ) → q < i * 64 → mark_at marks cpu q ≡ 0) →
    (i * 64 + trailing_zeros w64 (slice_index_or marks at 0) < 256) × (mark_at marks cpu (i * 64 + trailing_zeros w64 (slice_index_or marks at 0)) ≡ 1)
    × ((q : ℕ) → q < i * 64 + trailing_zeros w64 (slice_index_or marks at 0) → mark_at marks cpu q ≡ 0)
word-first marks cpu i at at_is few some small before =
    let lowest = bit_at-trailing_zeros w64 (slice_index_or marks at 0) some small in
    let word : word_of cpu (i * 64 + trailing_zeros w64 (slice_index_or marks at 0)) ≡ at = omega (arith, at_is, lowest.0) in
    let bit : (i * 64 + trailing_zeros w64 (slice_index_or marks at 0)) % 64 ≡ trailing_zeros w64 (slice_index_or marks at 0) = omega (arith, lowest.0) in (
      omega (arith, few, lowest.0),
      ap (λ w. bit_at (slice_index_or marks w 0) ((i * 64 + trailing_zeros w64 (slice_index_or marks at 0)) % 64)) word ∙ ap (bit_at (slice_index_or marks at 0)) bit ∙ lowest.1,
      λ q below. word-below (nat_lt q (i * 64)) marks cpu i at q refl at_is before (trailing_zeros w64 (slice_index_or marks at 0)) below (omega (arith, lowest.0)) lowest.2,
    )

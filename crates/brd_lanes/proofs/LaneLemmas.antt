-- What a vector of eight lanes has in each lane, and what a mask of it says.
use Rattle.std.proofs.Common.{◌≡◌, ℕ, ◌+◌, ◌-◌, ◌/◌, ◌%◌, ◌^◌, ◌<◌, ◌≤◌, Bool, true, false, not, cond, eqb, List, map, length, get_or, replicate, Option, Some, None, refl, sym, ap, ◌∙◌, subst, arith, inl, inr, w64}
use Rattle.std.specs.Int.{bit_at, trailing_zeros}
use Rattle.std.proofs.lemmas.Bool.{cases_lt}
use Rattle.std.proofs.lemmas.Nat.Bits.{bit_at-trailing_zeros, bit_at_above}
use Rattle.std.proofs.lemmas.Simd.{length-chunk, get_or-chunk, length-zip2, get_or-zip2, length-replicate, get_or-replicate, mask_l-lt, mask_l-mod, bit_mask_l}
use Rattle.std.proofs.lemmas.List.{length-map, get_or-map}
use lib.Lanes.{chunk, zip2, mask_l, top}
use Rattle.brd_lanes.specs.Scan.{IsLeast}

-- v has eight lanes, and f k is lane k
pub record HasLanes (v : List ℕ) (f : ℕ → ℕ) : Type 0 where
  pub eight : length v ≡ 8
  pub lane : (k : ℕ) → k < 8 → get_or v k 0 ≡ f k

pub loaded : (xs : List ℕ) (at : ℕ) → at + 8 ≤ length xs → HasLanes (chunk at 8 xs) (λ k. get_or xs (at + k) 0)
loaded xs at room = record { eight = length-chunk at 8 xs room; lane = λ k lt. get_or-chunk at 8 xs k 0 lt }

pub splatted : (n : ℕ) → HasLanes (replicate 8 n) (λ _. n)
splatted n = record { eight = length-replicate 8 n; lane = λ k lt. get_or-replicate 8 k n 0 lt }

pub combined : (h : ℕ → ℕ → ℕ) (f g : ℕ → ℕ) {a b : List ℕ} → HasLanes a f → HasLanes b g → HasLanes (zip2 h a b) (λ k. h (f k) (g k))
combined h f g {a} {b} p q = record {
  eight = length-zip2 h a b (p.eight ∙ sym q.eight) ∙ p.eight;
  lane = λ k lt. get_or-zip2 h a b k 0 0 0 (omega (arith, p.eight)) (omega (arith, q.eight)) ∙ ap (λ x. h x (get_or b k 0)) (p.lane k lt) ∙ ap (h (f k)) (q.lane k lt);
}

-- the eight bits of the mask are the tests
pub record IsMaskOf (test : ℕ → Bool) (mask : ℕ) : Type 0 where
  pub few : mask < 2 ^ 8
  pub bits : (k : ℕ) → k < 8 → bit_at mask k ≡ cond (test k) 1 0

-- what `to_bitmask` gives, where `top h` reads a lane as the test says
pub masked : (h : ℕ) (test : ℕ → Bool) (f : ℕ → ℕ) {v : List ℕ} → HasLanes v f → ((k : ℕ) → k < 8 → top h (f k) ≡ test k) → IsMaskOf test (mask_l (map (top h) v) % 2 ^ 64)
masked h test f {v} lanes reads =
    let ms = map (top h) v in
    let long : length ms ≡ 8 = length-map v (top h) ∙ lanes.eight in
    let same : mask_l ms % 2 ^ 64 ≡ mask_l ms = mask_l-mod ms 64 (omega arith) in
    record {
      few = subst (λ n. mask_l ms % 2 ^ 64 < 2 ^ n) long (subst (λ m. m < 2 ^ length ms) (sym same) (mask_l-lt ms));
      bits = λ k lt. ap (λ m. m / 2 ^ k % 2) same ∙ bit_mask_l ms k ∙ ap (λ b. cond b 1 0) (get_or-map (top h) v k 0 false (omega (arith, lanes.eight)) ∙ ap (top h) (lanes.lane k lt) ∙ reads k lt);
    }

bit_is_test : (b : Bool) → eqb (cond b 1 0) 1 ≡ b
bit_is_test true = refl
bit_is_test false = refl

-- bit k - at of the mask is the test at k
pub tested : (test : ℕ → Bool) (at mask : ℕ) → IsMaskOf (λ k. test (at + k)) mask → (k : ℕ) → at ≤ k → k < at + 8 → eqb (bit_at mask (k - at)) 1 ≡ test k
tested test at mask is k from to =
    let back : at + (k - at) ≡ k = omega arith in
    ap (λ b. eqb b 1) (is.bits (k - at) (omega arith)) ∙ bit_is_test (test (at + (k - at))) ∙ ap test back

-- from the least bit to the least index
pub least_from_mask : (test : ℕ → Bool) (at mask : ℕ) → IsMaskOf (λ k. test (at + k)) mask → (r : Option ℕ) → IsLeast (λ k. eqb (bit_at mask (k - at)) 1) at (at + 8) r → IsLeast test at (at + 8) r
least_from_mask test at mask is None none = λ k from to. sym (tested test at mask is k from to) ∙ none k from to
least_from_mask test at mask is (Some i) found = record {
  started = found.started;
  within = found.within;
  holds = sym (tested test at mask is i found.started found.within) ∙ found.holds;
  none_before = λ k from to. sym (tested test at mask is k from (omega (arith, found.within))) ∙ found.none_before k from to;
}

-- one lane of `simd_eq` and of `simd_ne`, at 32 bits
abbrev pub eq_lane : ℕ → ℕ → ℕ
eq_lane a b = cond (eqb a b) (2 ^ 32 - 1) 0

abbrev pub ne_lane : ℕ → ℕ → ℕ
ne_lane a b = cond (not (eqb a b)) (2 ^ 32 - 1) 0

-- a lane of a comparison is all ones or 0
pub top_of_mask : (h ones : ℕ) → top h ones ≡ true → top h 0 ≡ false → (b : Bool) → top h (cond b ones 0) ≡ b
top_of_mask h ones set clear true = set
top_of_mask h ones set clear false = clear

-- the lowest set bit of a mask of eight bits
pub record IsLowest (mask low : ℕ) : Type 0 where
  pub within : low < 8
  pub set : bit_at mask low ≡ 1
  pub clear : (i : ℕ) → i < low → bit_at mask i ≡ 0

pub lowest : (mask : ℕ) → 0 < mask → mask < 2 ^ 8 → IsLowest mask (trailing_zeros w64 mask)
lowest mask some few =
    let is = bit_at-trailing_zeros w64 mask some (omega arith) in
    record {
      within = elim (cases_lt (trailing_zeros w64 mask) 8) [
        | inl below ↦ below
        | inr above ↦ absurd (omega (arith, is.1, bit_at_above mask 8 (trailing_zeros w64 mask) few above))
      ];
      set = is.1;
      clear = is.2;
    }

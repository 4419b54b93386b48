use Rattle.std.proofs.Common.{◌≡◌, ℕ, ◌+◌, ◌-◌, ◌%◌, ◌^◌, ◌≤◌, true, not, List, eqb, map, length, replicate, get_or, refl, ap, sym, ◌∙◌, arith, inl, inr, w64, Contains}
use Rattle.std.specs.Prelude.{MatchBool}
use Rattle.std.specs.Int.{bit_at, trailing_zeros}
use Rattle.std.proofs.lemmas.Bool.{cases_eq, eq-eqb, eqb-true, ne_eqb}
use Rattle.std.proofs.lemmas.Nat.Bits.{bit_at-zero}
use Rattle.std.proofs.lemmas.List.{get_or_default}
use lib.Lanes.{chunk, zip2, mask_l, top}
use Rattle.brd_lanes.specs.Scan.{NoneBetween, is_address_at}
use Rattle.brd_lanes.proofs.LaneLemmas.{IsMaskOf, loaded, splatted, combined, eq_lane, masked, top_of_mask, tested, lowest}
use Rattle.brd_lanes.proofs.eight.has.Goals as goal

same_mask : (words : List ℕ) (word at : ℕ) → at + 8 ≤ length words → IsMaskOf (λ k. is_address_at words word (at + k)) (mask_l (map (top 31) (zip2 eq_lane (chunk at 8 words) (replicate 8 word))) % 2 ^ 64)
same_mask words word at room = masked 31 (λ k. is_address_at words word (at + k)) _ (combined eq_lane _ _ (loaded words at room) (splatted word)) (λ k lt. top_of_mask 31 (2 ^ 32 - 1) refl refl (is_address_at words word (at + k)))

-- a mask with no bit names no place, and one with a bit has a lowest one
decided : (words : List ℕ) (word at mask : ℕ) → at + 8 ≤ length words → IsMaskOf (λ k. is_address_at words word (at + k)) mask → MatchBool (not (eqb mask 0)) (Contains words word) (NoneBetween (is_address_at words word) at (at + 8))
decided words word at mask room is =
    elim (cases_eq mask 0) [
      | inl empty ↦ rw (eq-eqb mask 0 empty) (λ k from to. sym (tested (is_address_at words word) at mask is k from to) ∙ ap (λ b. eqb b 1) (ap (λ m. bit_at m (k - at)) empty ∙ bit_at-zero (k - at)))
      | inr some ↦
          let low = lowest mask (omega arith) is.few in
          let place = at + trailing_zeros w64 mask in
          let back : place - at ≡ trailing_zeros w64 mask = omega arith in
          let set : eqb (bit_at mask (place - at)) 1 ≡ true = ap (λ k. eqb (bit_at mask k) 1) back ∙ ap (λ b. eqb b 1) low.set in
          let there : get_or words place 0 ≡ word = eqb-true _ _ (sym (tested (is_address_at words word) at mask is place (omega arith) (omega arith)) ∙ set) in
          rw (ne_eqb mask 0 some) (place, omega arith, get_or_default words place word 0 (omega arith) ∙ there)
    ]

pub returns : goal.returns
returns c = decided c.args.addresses.now c.args.address c.args.at _ c.requires (same_mask c.args.addresses.now c.args.address c.args.at c.requires)

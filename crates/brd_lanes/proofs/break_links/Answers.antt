use Rattle.std.proofs.Common.{◌≡◌, ℕ, ◌-◌, ◌*◌, ◌%◌, ◌^◌, ◌<◌, Bool, true, false, not, ◌&&◌, cond, eqb, min, ap, ◌∙◌, arith, inl, inr, w8}
use Rattle.std.specs.Int.{bit_at, bit_not}
use Rattle.std.proofs.lemmas.Bool.{cases_eq, eq-eqb, ne_eqb}
use Rattle.std.proofs.lemmas.Nat.Bits.{bit_at_and, bit_at_not, bit_at_set_same, bit_at_set_other, bit_at-lt}
use lib.Bits.{bit_and, bit_or}
use Rattle.brd_lanes.proofs.break_links.Goals as goal

-- the bits that are kept: those outside the block, and `except`
abbrev mask_of : ℕ → ℕ → ℕ
mask_of inside except = bit_or (bit_not w8 inside) (1 * 2 ^ except % 2 ^ 8)

-- the bit of `except` stays
own_bit : (is_inside : Bool) (old new : ℕ) → new ≡ old → new ≡ cond (is_inside && not true) 0 old
own_bit true old new same = same
own_bit false old new same = same

-- the bit of another goes where it is inside
other_bit : (is_inside : Bool) (old new bit : ℕ) → old < 2 → bit ≡ cond is_inside 1 0 → new ≡ min old (1 - bit) → new ≡ cond (is_inside && not false) 0 old
other_bit true old new bit small is made = omega arith
other_bit false old new bit small is made = omega arith

kept : (valid inside except j : ℕ) (is_inside : Bool) → inside < 2 ^ 8 → except < 8 → j < 8 → bit_at inside j ≡ cond is_inside 1 0
    → bit_at (bit_and valid (mask_of inside except)) j ≡ cond (is_inside && not (eqb j except)) 0 (bit_at valid j)
kept valid inside except j is_inside few known lt is =
    let v : bit_at valid j < 2 = bit_at-lt valid j in
    let both = bit_at_and valid (mask_of inside except) j in
    elim (cases_eq j except) [
      | inl own ↦
          let set : bit_at (mask_of inside except) j ≡ 1 = ap (bit_at (mask_of inside except)) own ∙ bit_at_set_same w8 (bit_not w8 inside) except known in
          rw (eq-eqb j except own) (own_bit is_inside (bit_at valid j) _ (omega arith))
      | inr other ↦
          let bit : bit_at (mask_of inside except) j ≡ 1 - bit_at inside j = bit_at_set_other w8 (bit_not w8 inside) except known j other ∙ bit_at_not w8 inside j few lt in
          rw (ne_eqb j except other) (other_bit is_inside (bit_at valid j) _ (bit_at inside j) v is (both ∙ ap (min (bit_at valid j)) bit))
    ]

pub returns : goal.returns
returns c j lt = kept c.args.valid c.in_block.result c.args.except j _ c.in_block.type_inv c.requires.processor lt (c.in_block.ensures j lt)

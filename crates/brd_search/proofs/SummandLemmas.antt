-- A text is cut at its plus signs one after the other.
use Rattle.std.proofs.Common.{◌≡◌, ℕ, suc, ◌+◌, Bool, List, [], ◌∷◌, length, refl, inl, inr, arith}
use Rattle.std.specs.Prelude.{◌==◌, Option, None, Some}
use Rattle.std.specs.List.{slice_split, position_or_len}
use Rattle.std.proofs.lemmas.Bool.{cases_Bool}
use Rattle.std.proofs.lemmas.List.Splits.{slice_split_first, slice_split-cons_no}
use Rattle.brd_text.specs.Pieces.{AreParts}
use Rattle.brd_search.specs.Plans.{summands_of, summands_behind}

one_summand : (p : ℕ → Bool) (text : List ℕ) → position_or_len p text ≡ length text → slice_split p text ≡ text ∷ []
one_summand p [] h = refl
one_summand p (b ∷ bs) h =
    elim (cases_Bool (p b)) [
      | inl here ↦ let none : 0 ≡ suc (length bs) = rw here at h in absurd (omega arith)
      | inr other ↦
          let more : 1 + position_or_len p bs ≡ suc (length bs) = rw other at h in
          rw (slice_split-cons_no p b bs other, one_summand p bs (omega arith)) refl
    ]

pub parts_are_summands : (text front : List ℕ) (behind : Option (List ℕ)) → AreParts 43 text front behind
    → summands_of text ≡ front ∷ summands_behind behind
parts_are_summands text front None h = rw (one_summand (λ b. b == 43) text h.0, h.1) refl
parts_are_summands text front (Some behind) h = rw (slice_split_first (λ b. b == 43) text 0 h.0, h.1, h.2) refl

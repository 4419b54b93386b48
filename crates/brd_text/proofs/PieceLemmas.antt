-- A text is cut at its commas one after the other.
use Rattle.std.proofs.Common.{◌≡◌, ℕ, suc, ◌+◌, ◌<◌, Bool, List, [], ◌∷◌, length, refl, ap, inl, inr, arith, eqb}
use Rattle.std.specs.Prelude.{Option, None, Some}
use Rattle.std.specs.List.{slice_split, position_or_len}
use Rattle.std.proofs.lemmas.Bool.{cases_Bool}
use Rattle.std.proofs.lemmas.List.{length-drop}
use Rattle.std.proofs.lemmas.List.Splits.{slice_split_first, slice_split-cons_no}
use Rattle.brd_text.specs.Pieces.{is_comma, pieces_of, pieces_behind, AreParts}

one_piece : (p : ℕ → Bool) (text : List ℕ) → position_or_len p text ≡ length text → slice_split p text ≡ text ∷ []
one_piece p [] h = refl
one_piece p (b ∷ bs) h =
    elim (cases_Bool (p b)) [
      | inl here ↦ let none : 0 ≡ suc (length bs) = rw here at h in absurd (omega arith)
      | inr other ↦
          let more : 1 + position_or_len p bs ≡ suc (length bs) = rw other at h in
          rw (slice_split-cons_no p b bs other, one_piece p bs (omega arith)) refl
    ]

pub parts_are_pieces : (text front : List ℕ) (behind : Option (List ℕ)) → AreParts 44 text front behind
    → pieces_of text ≡ front ∷ pieces_behind behind
parts_are_pieces text front None h = rw (one_piece is_comma text h.0, h.1) refl
parts_are_pieces text front (Some behind) h = rw (slice_split_first is_comma text 0 h.0, h.1, h.2) refl

pub parts_are_shorter : (mark : ℕ) (text front behind : List ℕ) → AreParts mark text front (Some behind) → length behind < length text
parts_are_shorter mark text front behind h =
    let e = ap length h.2 in
    omega (arith, e, length-drop (position_or_len (λ b. eqb b mark) text + 1) text, h.0)

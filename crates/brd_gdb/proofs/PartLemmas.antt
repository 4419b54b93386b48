-- A text is parted at its marks one after the other.
use Rattle.std.proofs.Common.{◌≡◌, ℕ, suc, ◌+◌, ◌<◌, Bool, List, [], ◌∷◌, length, refl, ap, inl, inr, arith, eqb, Option, None, Some}
use Rattle.std.specs.List.{slice_split, position_or_len, count_by}
use Rattle.std.proofs.lemmas.Bool.{cases_Bool}
use Rattle.std.proofs.lemmas.List.Splits.{slice_split_first, slice_split-cons_no, length-slice_split}
use Rattle.brd_text.specs.Pieces.{AreParts}
use Rattle.brd_gdb.specs.Parts.{parts_behind, two_of}
use Rattle.brd_gdb.specs.Reading.{action_in, action_of, move_in, move_of}

one_part : (p : ℕ → Bool) (text : List ℕ) → position_or_len p text ≡ length text → slice_split p text ≡ text ∷ []
one_part p [] h = refl
one_part p (b ∷ bs) h =
    elim (cases_Bool (p b)) [
      | inl here ↦ let none : 0 ≡ suc (length bs) = rw here at h in absurd (omega arith)
      | inr other ↦
          let more : 1 + position_or_len p bs ≡ suc (length bs) = rw other at h in
          rw (slice_split-cons_no p b bs other, one_part p bs (omega arith)) refl
    ]

pub parts_are : (mark : ℕ) (text front : List ℕ) (behind : Option (List ℕ)) → AreParts mark text front behind
    → slice_split (λ b. eqb b mark) text ≡ front ∷ parts_behind mark behind
parts_are mark text front None h = rw (one_part (λ b. eqb b mark) text h.0, h.1) refl
parts_are mark text front (Some behind) h = rw (slice_split_first (λ b. eqb b mark) text 0 h.0, h.1, h.2) refl

no_third : (a b : List ℕ) (parts : List (List ℕ)) → 0 < length parts → two_of (a ∷ b ∷ parts) ≡ None
no_third a b [] h = absurd (omega arith)
no_third a b (c ∷ parts) h = refl

-- there is a third part, so there are not two
pub three_parts : (mark : ℕ) (a b text : List ℕ) → two_of (a ∷ b ∷ slice_split (λ c. eqb c mark) text) ≡ None
three_parts mark a b text =
    no_third a b (slice_split (λ c. eqb c mark) text) (omega (arith, length-slice_split (λ c. eqb c mark) text))

-- A text has a part, one more behind it, and yet more: so it isn't two parts.
pub not_two : (mark : ℕ) (text first behind second more : List ℕ) (after again : Option (List ℕ))
    → slice_split (λ b. eqb b mark) text ≡ first ∷ parts_behind mark after → after ≡ Some behind
    → slice_split (λ b. eqb b mark) behind ≡ second ∷ parts_behind mark again → again ≡ Some more
    → None ≡ two_of (slice_split (λ b. eqb b mark) text)
not_two mark text first behind second more after again e is f one = rw (e, is, f, one, three_parts mark first second more) refl

-- the same of an action
no_more : (a b : List ℕ) (parts : List (List ℕ)) → 0 < length parts → action_in (a ∷ b ∷ parts) ≡ None
no_more a b [] h = absurd (omega arith)
no_more a b (c ∷ parts) h = refl

three_are_none : (a b text : List ℕ) → action_in (a ∷ b ∷ slice_split (λ c. eqb c 58) text) ≡ None
three_are_none a b text =
    no_more a b (slice_split (λ c. eqb c 58) text) (omega (arith, length-slice_split (λ c. eqb c 58) text))

pub no_action : (text first behind second more : List ℕ) (after again : Option (List ℕ))
    → slice_split (λ b. eqb b 58) text ≡ first ∷ parts_behind 58 after → after ≡ Some behind
    → slice_split (λ b. eqb b 58) behind ≡ second ∷ parts_behind 58 again → again ≡ Some more
    → None ≡ action_of text
no_action text first behind second more after again e is f one = rw (e, is, f, one, three_are_none first second more) refl

-- where a part has more behind it, there are at least two actions
first_of_more : (a : List ℕ) (parts : List (List ℕ)) → 0 < length parts → move_in (a ∷ parts) ≡ move_of (a ∷ parts)
first_of_more a [] h = absurd (omega arith)
first_of_more a (b ∷ parts) h = refl

pub several_actions : (text first behind : List ℕ) (after : Option (List ℕ))
    → slice_split (λ b. eqb b 59) text ≡ first ∷ parts_behind 59 after → after ≡ Some behind
    → move_of (slice_split (λ b. eqb b 59) text) ≡ move_in (slice_split (λ b. eqb b 59) text)
several_actions text first behind after e is =
    rw (e, is, first_of_more first (slice_split (λ b. eqb b 59) behind) (omega (arith, length-slice_split (λ b. eqb b 59) behind))) refl

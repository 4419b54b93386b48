-- Tokens cut at their first comma.
use Rattle.std.proofs.Common.{◌≡◌, ℕ, suc, ◌+◌, List, [], ◌∷◌, length, take, drop, map, None, refl, ◌∙◌, inl, inr, arith}
use Rattle.std.specs.Prelude.{Option, Some}
use Rattle.std.specs.List.{position_or_len, onto_first}
use Rattle.std.proofs.lemmas.Bool.{cases_Bool}
use Rattle.brd_source.specs.Fronts.{parts_behind}
use Rattle.brd_source.specs.Reading.{is_comma, parts, operands_of}
use Rattle.brd_source.specs.Tokens.{SourceToken, seen}
use Rattle.brd_source.specs.declared.token.SourceToken as code

-- the place of the first comma
abbrev comma_at : List code.SourceToken → ℕ
comma_at tokens = position_or_len (λ token. is_comma (seen token)) tokens

-- the tokens after the first
behind_first : List code.SourceToken → Option (List SourceToken)
behind_first [] = None
behind_first (token ∷ tokens) = Some (map seen tokens)

first_cut : (tokens : List code.SourceToken) → parts (map seen tokens) ≡ map seen (take (comma_at tokens) tokens) ∷ parts_behind (behind_first (drop (comma_at tokens) tokens))
unfolding behind_first
first_cut [] = refl
first_cut (token ∷ tokens) =
    elim (cases_Bool (is_comma (seen token))) [
      | inl ends ↦ rw ends refl
      | inr goes_on ↦
          let one : 1 + comma_at tokens ≡ suc (comma_at tokens) = omega arith in
          rw (goes_on, one, first_cut tokens) refl
    ]

-- tokens with a comma
pub part_and_more : (tokens part end behind : List code.SourceToken) (token : code.SourceToken) (n : ℕ) → n ≡ comma_at tokens → part ≡ take n tokens → end ≡ drop n tokens → end ≡ token ∷ behind → parts (map seen tokens) ≡ map seen part ∷ parts (map seen behind)
unfolding behind_first
part_and_more tokens part end behind token n len front back more = first_cut tokens ∙ rw (← len, ← back, ← front, more) refl

-- tokens without one
pub only_part : (tokens part end : List code.SourceToken) (n : ℕ) → n ≡ comma_at tokens → part ≡ take n tokens → end ≡ drop n tokens → length end ≡ 0 → parts (map seen tokens) ≡ map seen part ∷ []
unfolding behind_first
only_part tokens part [] n len front back none = first_cut tokens ∙ rw (← len, ← back, ← front) refl
only_part tokens part (token ∷ end) n len front back none = absurd (omega (arith, none))

-- more than three parts are no operands
more_than_three : (x y z : List SourceToken) (token : SourceToken) (others : List (List SourceToken)) → operands_of (x ∷ y ∷ z ∷ onto_first token others) ≡ None
more_than_three x y z token [] = refl
more_than_three x y z token (part ∷ others) = refl

pub too_many : (x y z tokens : List SourceToken) → operands_of (x ∷ y ∷ z ∷ parts tokens) ≡ None
too_many x y z [] = refl
too_many x y z (token ∷ tokens) =
    elim (cases_Bool (is_comma token)) [
      | inl ends ↦ rw ends refl
      | inr goes_on ↦ rw goes_on (more_than_three x y z token (parts tokens))
    ]

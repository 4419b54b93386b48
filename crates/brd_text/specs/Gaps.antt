-- What the scanner's parts find: where a gap between tokens ends, and which token begins a text.
use Rattle.std.specs.Prelude.{◌≡◌, ℕ, ◌+◌, Bool, true, not, ◌&&◌, List, [], ◌∷◌, length}
use Rattle.brd_text.specs.Bytes.{is_blank}
use Rattle.brd_text.specs.Tokens.{Token, Text, opens_comment, tokens_in, at_end, first, others}
use Rattle.brd_text.specs.Tokens.Place.{Between, InBlock}
use Rattle.brd_text.specs.declared.gap.Gap.{Gap}
use Rattle.brd_text.specs.declared.gap.Gap.TheVariants.{Closed, Open}

-- the tokens after a gap
abbrev pub tokens_behind : Gap → Text
tokens_behind (Closed rest line) = tokens_in Between line rest.now
tokens_behind (Open line) = at_end InBlock line

-- the line on which a gap ends, and the bytes that are left: what bounds the lines to come
abbrev pub room_of : Gap → ℕ
room_of (Closed rest line) = line + length rest.now
room_of (Open line) = line

-- the bytes that are left after a gap
abbrev pub left_of : Gap → List ℕ
left_of (Closed rest line) = rest.now
left_of (Open line) = []

abbrev pub begins_token : List ℕ → Bool
begins_token [] = true
begins_token (b ∷ bs) = not (is_blank b) && not (opens_comment b bs)

abbrev pub IsAtToken : Gap → Type 0
IsAtToken (Closed rest line) = begins_token rest.now ≡ true
IsAtToken (Open line) = Unit {0}

-- A text begins with this token, and goes on so after it, whatever its line.
pub record Begins (text : List ℕ) (front : Token) (behind : List ℕ) : Type 0 where
  pub token : (line : ℕ) → first (tokens_in Between line text) ≡ record { token = front; line = line }
  pub rest : (line : ℕ) → others (tokens_in Between line text) ≡ tokens_in Between line behind

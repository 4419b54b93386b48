-- Which bytes spell which tokens: any blanks and comments may stand between tokens, and something has to stand between
-- two runs.
use Rattle.std.specs.Prelude.{◌≡◌, ℕ, Bool, true, false, ◌&&◌, ◌||◌, ◌==◌, not, List, [], ◌∷◌, ◌++◌, map}
use Rattle.std.specs.List.{list_all}
use Rattle.brd_text.specs.Bytes.{is_run_byte, is_blank, begins_with}
use Rattle.brd_text.specs.Tokens.{Token, Text, opens_comment}
use Rattle.brd_text.specs.Tokens.Token.{Run, Mark}

-- */ stands in these bytes
abbrev pub has_closing : List ℕ → Bool
has_closing [] = false
has_closing (b ∷ bs) = ((b == 42) && begins_with 47 bs) || has_closing bs

abbrev pub begins_with_run_byte : List ℕ → Bool
begins_with_run_byte [] = false
begins_with_run_byte (b ∷ bs) = is_run_byte b

pub data Spells : List ℕ → List Token → Type 0 where
  nothing : Spells [] []
  blank : (b : ℕ) (bytes : List ℕ) (tokens : List Token) → is_blank b ≡ true → Spells bytes tokens
      → Spells (b ∷ bytes) tokens
  line_comment : (comment bytes : List ℕ) (tokens : List Token) → list_all (λ b. not (b == 10)) comment ≡ true
      → Spells (10 ∷ bytes) tokens
      → Spells (47 ∷ 47 ∷ (comment ++ 10 ∷ bytes)) tokens
  last_comment : (comment : List ℕ) → list_all (λ b. not (b == 10)) comment ≡ true → Spells (47 ∷ 47 ∷ comment) []
  block_comment : (comment bytes : List ℕ) (tokens : List Token) → has_closing comment ≡ false → Spells bytes tokens
      → Spells (47 ∷ 42 ∷ (comment ++ 42 ∷ 47 ∷ bytes)) tokens
  run : (b : ℕ) (bs bytes : List ℕ) (tokens : List Token) → list_all is_run_byte (b ∷ bs) ≡ true
      → begins_with_run_byte bytes ≡ false
      → Spells bytes tokens → Spells (b ∷ (bs ++ bytes)) (Run (b ∷ bs) ∷ tokens)
  mark : (b : ℕ) (bytes : List ℕ) (tokens : List Token) → is_run_byte b ≡ false → is_blank b ≡ false
      → opens_comment b bytes ≡ false
      → Spells bytes tokens → Spells (b ∷ bytes) (Mark b ∷ tokens)

-- the tokens of a text, wherever they stand
abbrev pub bare_tokens : Text → List Token
bare_tokens t = map (λ p. p.token) t.tokens

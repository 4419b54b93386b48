-- Which bytes spell which tokens: any blanks may stand between tokens, a comment after them, and something has to
-- stand between two runs. A quote whose string has no end spells Wrong, with all that is after it.
use Rattle.std.specs.Prelude.{◌≡◌, ℕ, Bool, true, false, ◌&&◌, not, List, [], ◌∷◌, ◌++◌}
use Rattle.std.specs.List.{list_all}
use Rattle.brd_text.specs.Bytes.{is_run_byte, is_space}
use Rattle.brd_text.specs.Spelling.{begins_with_run_byte}
use Rattle.brd_source.specs.Tokens.{SourceToken, opens_comment, ends_string, escapes}
use Rattle.brd_source.specs.Tokens.SourceToken.{Run, Percent, Quoted, Mark, Wrong}

-- no byte of a string ends it, and no backslash stands alone at its end
abbrev pub stays_open : Bool → List ℕ → Bool
stays_open escaped [] = not escaped
stays_open escaped (b ∷ bs) = not (ends_string escaped b) && stays_open (escapes escaped b) bs

pub data SpellsLine : List ℕ → List SourceToken → Type 0 where
  nothing : SpellsLine [] []
  blank : (b : ℕ) (bytes : List ℕ) (tokens : List SourceToken) → is_space b ≡ true → SpellsLine bytes tokens
      → SpellsLine (b ∷ bytes) tokens
  sharp_comment : (comment : List ℕ) → SpellsLine (35 ∷ comment) []
  slash_comment : (comment : List ℕ) → SpellsLine (47 ∷ 47 ∷ comment) []
  run : (b : ℕ) (bs bytes : List ℕ) (tokens : List SourceToken) → list_all is_run_byte (b ∷ bs) ≡ true
      → begins_with_run_byte bytes ≡ false
      → SpellsLine bytes tokens → SpellsLine (b ∷ (bs ++ bytes)) (Run (b ∷ bs) ∷ tokens)
  percent_run : (bs bytes : List ℕ) (tokens : List SourceToken) → list_all is_run_byte bs ≡ true
      → begins_with_run_byte bytes ≡ false
      → SpellsLine bytes tokens → SpellsLine (37 ∷ (bs ++ bytes)) (Percent bs ∷ tokens)
  in_quotes : (text bytes : List ℕ) (tokens : List SourceToken) → stays_open false text ≡ true → SpellsLine bytes tokens
      → SpellsLine (34 ∷ (text ++ 34 ∷ bytes)) (Quoted text ∷ tokens)
  unended : (bytes : List ℕ) → ((text behind : List ℕ) → bytes ≡ text ++ 34 ∷ behind → stays_open false text ≡ false)
      → SpellsLine (34 ∷ bytes) (Wrong ∷ [])
  mark : (b : ℕ) (bytes : List ℕ) (tokens : List SourceToken) → is_run_byte b ≡ false → is_space b ≡ false
      → opens_comment b bytes ≡ false
      → (b ≡ 37 → ⊥) → (b ≡ 34 → ⊥) → SpellsLine bytes tokens → SpellsLine (b ∷ bytes) (Mark b ∷ tokens)

-- The pieces of a text: what stands between its commas, and what stands before and behind a byte.
use Rattle.std.specs.Prelude.{◌≡◌, ◌<◌, ℕ, ◌==◌, Bool, List, [], length, Option, None, Some}
use Rattle.std.specs.List.{slice_split, position_or_len, before_first, after_first}

-- the byte is a comma
abbrev pub is_comma : ℕ → Bool
is_comma byte = byte == 44

-- the pieces of a text between its commas: one more than it has commas
abbrev pub pieces_of : List ℕ → List (List ℕ)
pieces_of text = slice_split is_comma text

-- the pieces behind a piece: those of the text behind its comma, and none where no comma ends it
abbrev pub pieces_behind : Option (List ℕ) → List (List ℕ)
pieces_behind None = []
pieces_behind (Some text) = pieces_of text

-- what stands before the first such byte of a text, and what is behind it
abbrev pub AreParts : ℕ → List ℕ → List ℕ → Option (List ℕ) → Type 0
AreParts mark text front None = (position_or_len (λ b. b == mark) text ≡ length text) × (front ≡ text)
AreParts mark text front (Some behind) =
    (position_or_len (λ b. b == mark) text < length text)
    × (front ≡ before_first (λ b. b == mark) text) × (behind ≡ after_first (λ b. b == mark) text)

-- The lines of a text. A line ends with a newline or with the text; newlines belong to no line. So a text that ends
-- with a newline has one more line, which is empty. Lines are counted from 1.
use Rattle.std.specs.Prelude.{ℕ, zero, suc, ◌+◌, ◌==◌, Bool, not, if◌then◌else◌, List, [], ◌∷◌, Option, None, Some}
use Rattle.std.specs.Prelude.{slice_index_or}

-- lines, with one more byte at the front of the first
abbrev pub in_front : ℕ → List (List ℕ) → List (List ℕ)
in_front b [] = (b ∷ []) ∷ []
in_front b (line ∷ lines) = (b ∷ line) ∷ lines

abbrev pub lines_of : List ℕ → List (List ℕ)
lines_of [] = [] ∷ []
lines_of (b ∷ bs) = if b == 10 then [] ∷ lines_of bs else in_front b (lines_of bs)

-- the lines after a line: those of the text after its newline, and none where no newline ends it
abbrev pub lines_behind : Option (List ℕ) → List (List ℕ)
lines_behind None = []
lines_behind (Some text) = lines_of text

-- the line of a number, empty where the text has no such line
abbrev pub line_at : List ℕ → ℕ → List ℕ
line_at text zero = []
line_at text (suc n) = slice_index_or (lines_of text) n []

-- the number of the line after a byte of a line
abbrev pub line_after : ℕ → ℕ → ℕ
line_after line b = if b == 10 then line + 1 else line

-- a byte of a line, and not its end
unfoldable pub stays_on : ℕ → Bool
stays_on b = not (b == 10)

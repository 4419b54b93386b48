-- How text shows the name of a symbol or of a file, whose bytes may be any.
use Rattle.std.specs.Prelude.{◌≡◌, ℕ, ◌/◌, ◌%◌, Bool, true, ◌&&◌, nat_le, if◌then◌else◌, List, [], ◌∷◌, ◌++◌, codes}
use Rattle.std.specs.List.{flat_map, list_all}
use Rattle.brd_text.specs.Hex.{hex_digit}

-- a printable character of ASCII, the blank with them
abbrev pub is_printable : ℕ → Bool
is_printable b = nat_le 32 b && nat_le b 126

-- the two hexadecimal digits of a byte
abbrev pub two_digits : ℕ → List ℕ
two_digits b = hex_digit (b / 16 % 16) ∷ hex_digit (b % 16) ∷ []

-- A byte of a name: printable ASCII as it is, and any other byte as \xHH (own choice), so that a name can't end the
-- line in which it stands, and gives a terminal no commands.
abbrev pub shown_byte : ℕ → List ℕ
shown_byte b = if is_printable b then b ∷ [] else codes "\\x" ++ two_digits b

abbrev pub shown_name : List ℕ → List ℕ
shown_name name = flat_map shown_byte name

-- a text of printable ASCII alone: it has no newline
abbrev pub IsPrintable : List ℕ → Type 0
IsPrintable text = list_all is_printable text ≡ true

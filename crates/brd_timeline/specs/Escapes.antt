-- Bytes of names and labels in texts that give some bytes a meaning of their own.
use Rattle.std.specs.Prelude.{ℕ, ◌/◌, ◌%◌, Bool, ◌&&◌, ◌||◌, ◌==◌, nat_le, if◌then◌else◌, List, [], ◌∷◌, ◌++◌, codes}
use Rattle.std.specs.List.{flat_map}
use Rattle.brd_text.specs.Hex.{hex_digit}

-- a printable character of ASCII
abbrev pub is_printable : ℕ → Bool
is_printable b = nat_le 32 b && nat_le b 126

-- the two hexadecimal digits of a byte
abbrev pub two_digits : ℕ → List ℕ
two_digits b = hex_digit (b / 16 % 16) ∷ hex_digit (b % 16) ∷ []

-- A byte in a string of JSON (RFC 8259, section 7): " and \ stand after a \, printable ASCII stands for itself, and
-- any other byte is the character of its number, \u00XX.
abbrev pub json_byte : ℕ → List ℕ
json_byte b =
    if b == 34 || b == 92 then 92 ∷ b ∷ []
    else (if is_printable b then b ∷ []
    else 92 ∷ codes "u00" ++ two_digits b)

-- a string of JSON, with its quotes
abbrev pub json_string : List ℕ → List ℕ
json_string text = 34 ∷ flat_map json_byte text ++ 34 ∷ []

-- A byte in text of XML (XML 1.0, section 2.4): the five characters that have a meaning there stand for themselves by
-- name or number, printable ASCII as it is, and any other byte as \xXX, since XML has no way to write control
-- characters (own choice).
abbrev pub xml_byte : ℕ → List ℕ
xml_byte b =
    if b == 38 then codes "&amp;"
    else (if b == 60 then codes "&lt;"
    else (if b == 62 then codes "&gt;"
    else (if b == 34 then codes "&quot;"
    else (if b == 39 then codes "&#39;"
    else (if is_printable b then b ∷ []
    else 92 ∷ codes "x" ++ two_digits b)))))

abbrev pub xml_text : List ℕ → List ℕ
xml_text text = flat_map xml_byte text

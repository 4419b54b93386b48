-- The bytes that a text stands for in which a backslash begins an escape (own choice, after the literals of Rust).
use Rattle.std.specs.Prelude.{◌≡◌, ℕ, ◌+◌, ◌*◌, ◌==◌, if◌then◌else◌, List, [], ◌∷◌, Option, None, Some}
use Rattle.std.specs.Prelude.{option_map, option_and_then}
use Rattle.brd_text.specs.Numbers.{hex_digit_value}

-- how far an escape has been read: none has begun, or a backslash was read, or `\x`, or `\x` and a digit of this value
pub data Within : Type 0 where
  no_escape : Within
  backslash : Within
  hex : Within
  digit : ℕ → Within

-- the byte for which a letter behind a backslash stands: `n` a newline, `r` a carriage return, `t` a tab, and a
-- backslash itself
abbrev pub lettered : ℕ → Option ℕ
lettered b =
    if b == 110 then Some 10 else (if b == 114 then Some 13 else (if b == 116 then Some 9
    else (if b == 92 then Some 92 else None)))

-- a byte before others, where both are there
abbrev pub before : Option ℕ → Option (List ℕ) → Option (List ℕ)
before byte bytes = option_and_then (λ b. option_map (λ bs. b ∷ bs) bytes) byte

-- The bytes for which the rest of a text stands. A byte stands for itself, unless it is a backslash; behind that stands
-- a letter, or `x` and two hexadecimal digits.
abbrev pub bytes_within : Within → List ℕ → Option (List ℕ)
bytes_within no_escape [] = Some []
bytes_within no_escape (b ∷ bs) =
    if b == 92 then bytes_within backslash bs else before (Some b) (bytes_within no_escape bs)
bytes_within backslash [] = None
bytes_within backslash (b ∷ bs) =
    if b == 120 then bytes_within hex bs else before (lettered b) (bytes_within no_escape bs)
bytes_within hex [] = None
bytes_within hex (b ∷ bs) = option_and_then (λ high. bytes_within (digit high) bs) (hex_digit_value b)
bytes_within (digit high) [] = None
bytes_within (digit high) (b ∷ bs) =
    before (option_map (λ low. 16 * high + low) (hex_digit_value b)) (bytes_within no_escape bs)

-- the bytes for which a text stands; none where a backslash in it begins no escape
unfoldable pub bytes_of : List ℕ → Option (List ℕ)
bytes_of text = bytes_within no_escape text

-- Only private contracts name the next ones.

-- a text stands for these bytes
abbrev pub HasBytes : List ℕ → List ℕ → Type 0
HasBytes text bytes = bytes_of text ≡ Some bytes

-- the rest of a text stands for a byte, and for that for which what is left stands
abbrev pub Gives : Within → List ℕ → ℕ → List ℕ → Type 0
Gives within text byte left = bytes_within within text ≡ before (Some byte) (bytes_within no_escape left)

-- the rest of a text stands for nothing
abbrev pub GivesNone : Within → List ℕ → Type 0
GivesNone within text = bytes_within within text ≡ None

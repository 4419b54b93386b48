-- Bytes and numbers in hexadecimal digits, as packets have them.
use Rattle.std.specs.Prelude.{ℕ, ◌+◌, ◌*◌, ◌/◌, ◌%◌, ◌==◌, ◌&&◌, if◌then◌else◌, List, [], ◌∷◌, ◌++◌, length, take, drop}
use Rattle.std.specs.Prelude.{codes}
use Rattle.std.specs.Prelude.{Option, None, Some, option_and_then}
use Rattle.std.specs.Str.{bytes_eq}
use Rattle.brd_text.specs.Hex.{hex_digit}
use Rattle.brd_text.specs.Numbers.{hex_digit_value, most_word, value_of}
use Rattle.brd_gdb.specs.Parts.{two_of}

-- a byte in two digits, in lower case
abbrev pub hexed_byte : ℕ → List ℕ
hexed_byte byte = hex_digit (byte / 16) ∷ hex_digit (byte % 16) ∷ []

-- bytes in two digits each
abbrev pub hexed : List ℕ → List ℕ
hexed [] = []
hexed (byte ∷ bytes) = hexed_byte byte ++ hexed bytes

-- the bytes that digits of either case spell, two each
abbrev pub unhexed : List ℕ → Option (List ℕ)
unhexed [] = Some []
unhexed (a ∷ []) = None
unhexed (a ∷ b ∷ digits) =
    option_and_then (λ high. option_and_then (λ low. option_and_then (λ bytes. Some ((16 * high + low) ∷ bytes))
    (unhexed digits)) (hex_digit_value b)) (hex_digit_value a)

-- the values of two texts of digits
abbrev pub pair_by : Option (List ℕ × List ℕ) → Option (ℕ × ℕ)
pair_by None = None
pair_by (Some (a, b)) =
    option_and_then (λ first. option_and_then (λ second. Some (first, second)) (value_of 16 most_word b))
    (value_of 16 most_word a)

-- Of an address its own 32 bits: GDB writes some addresses in 64 bits, with the sign extended.
abbrev pub own_digits : List ℕ → List ℕ
own_digits text =
    if length text == 16 && bytes_eq (take 8 text) (codes "ffffffff") then drop 8 text else text

-- the values of two addresses
abbrev pub range_by : Option (List ℕ × List ℕ) → Option (ℕ × ℕ)
range_by None = None
range_by (Some (a, b)) = pair_by (Some (own_digits a, own_digits b))

abbrev pub range_of : List (List ℕ) → Option (ℕ × ℕ)
range_of parts = range_by (two_of parts)

-- the values of two parts
abbrev pub pair_of : List (List ℕ) → Option (ℕ × ℕ)
pair_of parts = pair_by (two_of parts)

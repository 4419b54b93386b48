-- Words of 32 bits as eight hexadecimal digits.
use Rattle.std.specs.Prelude.{ℕ, ◌+◌, ◌/◌, ◌%◌, ◌^◌, ◌==◌, nat_lt, if◌then◌else◌, List, [], ◌∷◌, length, Option, None}
use Rattle.brd_text.specs.Numbers.{value_of, most_word}

-- the word that eight hexadecimal digits of either case spell
unfoldable pub hex_word_of : List ℕ → Option ℕ
hex_word_of digits = if length digits == 8 then value_of 16 most_word digits else None

-- the hexadecimal digit of a value below 16, in lower case
unfoldable pub hex_digit : ℕ → ℕ
hex_digit value = if nat_lt value 10 then 48 + value else 87 + value

-- a word as eight hexadecimal digits, in lower case
unfoldable pub hex_of : ℕ → List ℕ
hex_of word =
    hex_digit (word / 2 ^ 28 % 16) ∷ hex_digit (word / 2 ^ 24 % 16) ∷ hex_digit (word / 2 ^ 20 % 16)
    ∷ hex_digit (word / 2 ^ 16 % 16)
    ∷ hex_digit (word / 2 ^ 12 % 16) ∷ hex_digit (word / 2 ^ 8 % 16) ∷ hex_digit (word / 2 ^ 4 % 16)
    ∷ hex_digit (word % 16) ∷ []

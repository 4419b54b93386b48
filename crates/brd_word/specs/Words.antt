-- Words: numbers below 2 ^ 32. Read as signed, a word of 2 ^ 31 or above stands for itself less 2 ^ 32; a halfword of
-- 2 ^ 15 or above for itself less 2 ^ 16, a byte of 2 ^ 7 or above for itself less 2 ^ 8 (two's complement, as
-- everywhere in MD00086).
use Rattle.std.specs.Prelude.{ℕ, ◌+◌, ◌-◌, ◌*◌, ◌/◌, ◌%◌, ◌^◌, ◌<◌, ◌==◌, nat_lt, Bool, ◌&&◌, not, if◌then◌else◌, List}
use Rattle.std.specs.Prelude.{[], ◌∷◌, slice_index, ℤ, pos, negsuc, ◌+ℤ◌, ◌-ℤ◌, ◌*ℤ◌, int_div, int_rem}
use Rattle.std.specs.Int.{w32, w64, cast_signed, cast_unsigned}
use Rattle.brd_word.specs.declared.order.Order.{Order}

-- the signed reading of a word
abbrev pub signed : ℕ → ℤ
signed word = cast_signed w32 word

-- the word whose signed reading is this number, which must be one of a word
abbrev pub word_of_signed : ℤ → ℕ
word_of_signed number = cast_unsigned w32 number

-- the word with the signed reading of a byte
abbrev pub sign_extended8 : ℕ → ℕ
sign_extended8 byte = if nat_lt byte (2 ^ 7) then byte else byte + (2 ^ 32 - 2 ^ 8)

-- the word with the signed reading of a halfword: `sign_extend(immediate)` in the operations of MD00086
abbrev pub sign_extended16 : ℕ → ℕ
sign_extended16 half = if nat_lt half (2 ^ 15) then half else half + (2 ^ 32 - 2 ^ 16)

-- whether a number is the signed reading of a word: from -2 ^ 31 to 2 ^ 31 - 1
abbrev pub is_signed_word : ℤ → Bool
is_signed_word (pos n) = nat_lt n (2 ^ 31)
is_signed_word (negsuc n) = nat_lt n (2 ^ 31)

abbrev pub sum_overflows : ℕ → ℕ → Bool
sum_overflows a b = not (is_signed_word (signed a +ℤ signed b))

abbrev pub difference_overflows : ℕ → ℕ → Bool
difference_overflows a b = not (is_signed_word (signed a -ℤ signed b))

-- the product of the signed readings as a number of 64 bits, in two's complement; it always fits
abbrev pub signed_product : ℕ → ℕ → ℕ
signed_product a b = cast_unsigned w64 (signed a *ℤ signed b)

abbrev pub unsigned_product : ℕ → ℕ → ℕ
unsigned_product a b = a * b

-- a quotient, rounded toward zero, and the remainder
pub record Quotient : Type 0 where
  pub quotient : ℕ
  pub remainder : ℕ

-- own choice: what is divided by 0 gives all ones, and is the remainder
abbrev pub divided_by_zero : ℕ → Quotient
divided_by_zero a = record { quotient = 2 ^ 32 - 1; remainder = a }

abbrev pub unsigned_quotient : ℕ → ℕ → Quotient
unsigned_quotient a b = if b == 0 then divided_by_zero a else record { quotient = a / b; remainder = a % b }

-- own choice: the least number by -1, whose quotient isn't a word, gives itself, with remainder 0
abbrev pub signed_quotient : ℕ → ℕ → Quotient
signed_quotient a b =
    if b == 0 then divided_by_zero a
    else if (a == 2 ^ 31) && (b == 2 ^ 32 - 1) then record { quotient = 2 ^ 31; remainder = 0 }
    else record {
      quotient = word_of_signed (int_div (signed a) (signed b));
      remainder = word_of_signed (int_rem (signed a) (signed b));
    }

-- the four bytes of a word as they lie in memory, from the lowest address on: the most significant first, or last
abbrev pub bytes_of_word : Order → ℕ → List ℕ
bytes_of_word Order.Big word = word / 2 ^ 24 % 256 ∷ word / 2 ^ 16 % 256 ∷ word / 2 ^ 8 % 256 ∷ word % 256 ∷ []
bytes_of_word Order.Little word = word % 256 ∷ word / 2 ^ 8 % 256 ∷ word / 2 ^ 16 % 256 ∷ word / 2 ^ 24 % 256 ∷ []

-- the word of four bytes that lie so
abbrev pub word_of_bytes : Order → List ℕ → ℕ
word_of_bytes Order.Big bytes =
    slice_index bytes 0 * 2 ^ 24 + slice_index bytes 1 * 2 ^ 16 + slice_index bytes 2 * 2 ^ 8 + slice_index bytes 3
word_of_bytes Order.Little bytes =
    slice_index bytes 3 * 2 ^ 24 + slice_index bytes 2 * 2 ^ 16 + slice_index bytes 1 * 2 ^ 8 + slice_index bytes 0

-- the two bytes of a halfword as they lie in memory
abbrev pub bytes_of_half : Order → ℕ → List ℕ
bytes_of_half Order.Big half = half / 2 ^ 8 % 256 ∷ half % 256 ∷ []
bytes_of_half Order.Little half = half % 256 ∷ half / 2 ^ 8 % 256 ∷ []

-- the halfword of two bytes that lie so
abbrev pub half_of_bytes : Order → List ℕ → ℕ
half_of_bytes Order.Big bytes = slice_index bytes 0 * 2 ^ 8 + slice_index bytes 1
half_of_bytes Order.Little bytes = slice_index bytes 1 * 2 ^ 8 + slice_index bytes 0

-- each of these numbers is a byte
abbrev pub AreBytes : List ℕ → Type 0
AreBytes bytes = (place : ℕ) → slice_index bytes place < 2 ^ 8

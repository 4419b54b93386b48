-- Numbers as they are written: decimal digits up to a greatest value, and decimal digits or hexadecimal ones after 0x,
-- below 2 to the 32nd.
use Rattle.std.specs.Prelude.{ℕ, ◌+◌, ◌-◌, ◌*◌, Bool, false, not, ◌&&◌, nat_le, ◌==◌, if◌then◌else◌, List, [], ◌∷◌}
use Rattle.std.specs.Prelude.{length, Option, Some, None, option_and_then}

-- the value of a hexadecimal digit: 0 to 9, a to f or A to F
unfoldable pub hex_digit_value : ℕ → Option ℕ
hex_digit_value b =
    if nat_le 48 b && nat_le b 57 then Some (b - 48)
    else (if nat_le 65 b && nat_le b 70 then Some (b - 55)
    else (if nat_le 97 b && nat_le b 102 then Some (b - 87)
    else None))

-- the value, unless it is greater than this
abbrev pub at_most : ℕ → Option ℕ → Option ℕ
at_most most None = None
at_most most (Some v) = if nat_le v most then Some v else None

-- what a byte stands for as a digit in a base up to 16
unfoldable pub digit_of : ℕ → ℕ → Option ℕ
digit_of base b = at_most (base - 1) (hex_digit_value b)

-- the value of digits after others that stand for v; none where a byte is no digit
abbrev pub value_behind : ℕ → Option ℕ → List ℕ → Option ℕ
value_behind base v [] = v
value_behind base None (b ∷ bs) = None
value_behind base (Some v) (b ∷ bs) =
    value_behind base (option_and_then (λ d. Some (base * v + d)) (digit_of base b)) bs

-- the value of at least one digit, unless it is greater than this
abbrev pub value_of : ℕ → ℕ → List ℕ → Option ℕ
value_of base most [] = None
value_of base most (b ∷ bs) = at_most most (value_behind base (Some 0) (b ∷ bs))

-- decimal digits
unfoldable pub decimal_of : List ℕ → ℕ → Option ℕ
decimal_of digits most = value_of 10 most digits

-- a 0 before other digits
abbrev pub has_leading_zero : List ℕ → Bool
has_leading_zero [] = false
has_leading_zero (b ∷ bs) = (b == 48) && not (length bs == 0)

-- decimal digits without leading zeros
unfoldable pub plain_decimal_of : List ℕ → ℕ → Option ℕ
plain_decimal_of digits most = if has_leading_zero digits then None else decimal_of digits most

-- the greatest of 32 bits
abbrev pub most_word : ℕ
most_word = 0xffffffff

-- 0x and hexadecimal digits, or decimal digits
abbrev pub number_by : List ℕ → Option ℕ
number_by [] = None
number_by (a ∷ []) = value_of 10 most_word (a ∷ [])
number_by (a ∷ b ∷ bs) =
    if (a == 48) && (b == 120) then value_of 16 most_word bs else value_of 10 most_word (a ∷ b ∷ bs)

unfoldable pub number_of : List ℕ → Option ℕ
number_of bytes = number_by bytes

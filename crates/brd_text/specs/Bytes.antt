-- The bytes of a text by kind: letters, digits, the bytes of runs, and blanks. All by their ASCII codes.
use Rattle.std.specs.Prelude.{ℕ, Bool, false, ◌||◌, ◌&&◌, ◌==◌, nat_le, List, [], ◌∷◌}
use Rattle.std.specs.List.{list_all}

-- A to Z and a to z
unfoldable pub is_letter : ℕ → Bool
is_letter b = (nat_le 65 b && nat_le b 90) || (nat_le 97 b && nat_le b 122)

-- 0 to 9
unfoldable pub is_digit : ℕ → Bool
is_digit b = nat_le 48 b && nat_le b 57

-- a byte of a run: a letter, a digit, underscore, dot, dollar
unfoldable pub is_run_byte : ℕ → Bool
is_run_byte b = is_letter b || is_digit b || (b == 95) || (b == 46) || (b == 36)

-- space, tab, carriage return: what may stand between the parts of a line
unfoldable pub is_space : ℕ → Bool
is_space b = (b == 32) || (b == 9) || (b == 13)

-- space, tab, carriage return, newline
unfoldable pub is_blank : ℕ → Bool
is_blank b = is_space b || (b == 10)

-- a letter, underscore or dot, as which a name begins
unfoldable pub begins_name : ℕ → Bool
begins_name b = is_letter b || (b == 95) || (b == 46)

-- the first of the bytes is this one
abbrev pub begins_with : ℕ → List ℕ → Bool
begins_with a [] = false
begins_with a (b ∷ bs) = b == a

-- a name: a run that begins with a letter, underscore or dot
abbrev pub is_name : List ℕ → Bool
is_name [] = false
is_name (b ∷ bs) = begins_name b && list_all is_run_byte bs

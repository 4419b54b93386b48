-- The data of a page: a text of JSON inside an element `script`.
use Rattle.std.specs.Prelude.{◌≡◌, ℕ, ◌/◌, ◌%◌, Bool, not, ◌&&◌, ◌||◌, ◌==◌, nat_le, if◌then◌else◌, List, [], ◌∷◌, ◌++◌}
use Rattle.std.specs.Prelude.{codes, Option, Some, None}
use Rattle.std.specs.Fmt.{decimal}
use Rattle.std.specs.List.{flat_map}
use Rattle.brd_text.specs.Hex.{hex_digit}

-- A byte that ends no element and begins none, wherever it stands: a newline or printable ASCII, and none of & < >.
-- (HTML Living Standard, "Restrictions for contents of script elements": only what begins with < can end one.)
unfoldable pub is_plain : ℕ → Bool
is_plain b = (b == 10 || nat_le 32 b && nat_le b 126) && not (b == 38) && not (b == 60) && not (b == 62)

-- a byte that stands for itself in a string: a plain one that is no newline, no " and no \
unfoldable pub is_itself : ℕ → Bool
is_itself b = is_plain b && not (b == 10) && not (b == 34) && not (b == 92)

-- the two hexadecimal digits of a byte
abbrev pub two_digits : ℕ → List ℕ
two_digits b = hex_digit (b / 16) ∷ hex_digit (b % 16) ∷ []

-- A byte in a string of JSON (RFC 8259, section 7): itself, or the character of its number, \u00XX.
abbrev pub data_byte : ℕ → List ℕ
data_byte b = if is_itself b then b ∷ [] else codes "\\u00" ++ two_digits b

-- a string, with its quotes
abbrev pub data_string : List ℕ → List ℕ
data_string text = 34 ∷ flat_map data_byte text ++ 34 ∷ []

-- ---- an event's object

-- a member whose name is one letter, and whose value is a number
abbrev pub member_text : ℕ → ℕ → List ℕ
member_text name number = 34 ∷ name ∷ 34 ∷ 58 ∷ decimal number

-- its members that say whose step it was ("c"), and at which address ("a")
abbrev pub head_text : Option ℕ → Option ℕ → List ℕ
head_text (Some cpu) (Some place) = member_text 99 cpu ++ 44 ∷ member_text 97 place
head_text (Some cpu) None = member_text 99 cpu
head_text None (Some place) = member_text 97 place
head_text None None = []

-- how it begins, as the first one or behind others
abbrev pub row_front : Bool → List ℕ
row_front first = if first then codes "\n{" else codes ",\n{"

-- it begins with these members
pub record IsRow (first : Bool) (cpu place : Option ℕ) (text : List ℕ) : Type 0 where
  pub others : List ℕ
  pub is_text : text ≡ row_front first ++ head_text cpu place ++ others

-- how a list ends in an object that has these members behind it
abbrev pub end_text : List ℕ → List ℕ
end_text members = 93 ∷ 44 ∷ members ++ 125 ∷ []

-- nothing is said of a text
abbrev pub IsAny : List ℕ → Type 0
IsAny text = Unit {0}

-- Which symbol an address goes by, and how that is written.
use Rattle.std.specs.Prelude.{ℕ, ◌-◌, Bool, ◌&&◌, ◌==◌, nat_le, nat_lt, if◌then◌else◌, List, [], ◌∷◌, ◌++◌, Option}
use Rattle.std.specs.Prelude.{◌≡◌, Some, None, codes, filter}
use Rattle.std.specs.List.{fold}
use Rattle.std.specs.List.Sorted.{IsNonDecreasingBy}
use Rattle.brd_base.specs.Space.{base, top}
use Rattle.brd_text.specs.Hex.{hex_of}
use Rattle.brd_mem.specs.declared.image.Symbol.{Symbol}
use Rattle.brd_listing.specs.Names.{shown_name}

-- a value from the first address of RAM to this address; other values are numbers, or addresses of something else
abbrev pub is_below : ℕ → Symbol → Bool
is_below address s = nat_le base s.value && nat_le s.value address

-- whether a symbol is at least as near as the one that was found before it
abbrev pub is_nearer : ℕ → Option Symbol → Symbol → Bool
is_nearer address None s = is_below address s
is_nearer address (Some found) s = is_below address s && nat_le found.value s.value

abbrev pub nearer : ℕ → Option Symbol → Symbol → Option Symbol
nearer address found s = if is_nearer address found s then Some s else found

-- of the symbols below an address the one with the greatest value, of equal ones the last; none for an address that no
-- RAM has
abbrev pub nearest_of : List Symbol → ℕ → Option Symbol
nearest_of symbols address = if nat_lt address top then fold (nearer address) None symbols else None

-- The order in which the nearest one is found by halves: by ascending value, and those of one value as they stand.
abbrev pub has_value : ℕ → Symbol → Bool
has_value value s = s.value == value

pub record IsAscending (symbols ascending : List Symbol) : Type 0 where
  pub rises : IsNonDecreasingBy (λ s. s.value) ascending
  pub same : (value : ℕ) → filter (has_value value) ascending ≡ filter (has_value value) symbols

-- Of ascending symbols the last one with at most the value of an address is the nearest, if RAM can lie there.
abbrev pub of_ram : Symbol → Option Symbol
of_ram s = if nat_le base s.value then Some s else None

-- digits without the zeros before them; the last digit stays
abbrev pub without_zeros : List ℕ → List ℕ
without_zeros [] = []
without_zeros (d ∷ []) = d ∷ []
without_zeros (d ∷ e ∷ ds) = if d == 48 then without_zeros (e ∷ ds) else d ∷ e ∷ ds

-- 0x, and hexadecimal digits without leading zeros
abbrev pub short_hex : ℕ → List ℕ
short_hex n = codes "0x" ++ without_zeros (hex_of n)

abbrev pub distance_text : ℕ → List ℕ
distance_text distance = if distance == 0 then [] else 43 ∷ short_hex distance

-- a symbol's name, as it is shown, and the distance from it; an address that has no symbol, as eight digits
abbrev pub text_by : Option Symbol → ℕ → List ℕ
text_by None address = hex_of address
text_by (Some s) address = shown_name s.name ++ distance_text (address - s.value)

abbrev pub place_text : List Symbol → ℕ → List ℕ
place_text symbols address = text_by (nearest_of symbols address) address

-- The values of names and expressions: whole numbers with sign, which become patterns of bits only after their ranges
-- are tested.
use Rattle.std.specs.Prelude.{ℕ, ◌-◌, ◌%◌, ◌^◌, ℤ, pos, negsuc, ◌+ℤ◌, ◌≤ℤ◌, ◌&&◌, nat_le, int_le, if◌then◌else◌, List}
use Rattle.std.specs.Prelude.{[], ◌∷◌, Option, None, Some, option_map, bytes_eq, Result, Ok, Err}
use Rattle.std.specs.Int.{int_div_euclid}
use Rattle.brd_source.specs.Statement.{Expression, Immediate}
use Rattle.brd_source.specs.Statement.Immediate.{Whole, High, Low}
use Rattle.brd_asm.specs.declared.fault.AsmFault.{AsmFault}
use Rattle.brd_asm.specs.declared.fault.AsmFault.TheVariants as fault

-- a name and its value
pub record Name : Type 0 where
  pub name : List ℕ
  pub value : ℤ

-- the value of a name, if it has one
abbrev pub named : List Name → List ℕ → Option ℤ
named [] name = None
named (n ∷ ns) name = if bytes_eq name n.name then Some n.value else named ns name

-- the value of an expression, unless it uses a name without one
abbrev pub value_by : List Name → Option (List ℕ) → ℤ → Option ℤ
value_by names None number = Some number
value_by names (Some name) number = option_map (λ v. v +ℤ number) (named names name)

unfoldable pub value_of : List Name → Expression → Option ℤ
value_of names e = value_by names e.name e.number

-- far from the limits of 128 bits
abbrev pub IsSmall : ℤ → Type 0
IsSmall v = (negsuc (2 ^ 64) ≤ℤ v) × (v ≤ℤ pos (2 ^ 64))

-- a value modulo n, from 0 to n - 1
abbrev pub modulo : ℤ → ℕ → ℕ
modulo (pos a) n = a % n
modulo (negsuc a) n = n - 1 - a % n

-- The values of %hi and %lo: the halves of e such that the low one, read as signed, and 65,536 times the high one add
-- up to e modulo 2 to the 32nd (`laws::halves_add_up`).
abbrev pub high_half : ℤ → ℕ
high_half v = modulo (int_div_euclid (v +ℤ pos 0x8000) (pos 0x10000)) (2 ^ 16)

abbrev pub low_half : ℤ → ℕ
low_half v = modulo v (2 ^ 16)

-- sixteen bits, read as signed
abbrev pub signed_half : ℕ → ℤ
signed_half half = if nat_le 0x8000 half then pos half +ℤ negsuc 0xffff else pos half

-- the value of an immediate, where the instruction reads it as signed
unfoldable pub signed_value : List Name → Immediate → Option ℤ
signed_value names (Whole e) = value_of names e
signed_value names (High e) = option_map (λ v. pos (high_half v)) (value_of names e)
signed_value names (Low e) = option_map (λ v. signed_half (low_half v)) (value_of names e)

-- the value of an immediate, where the instruction doesn't
unfoldable pub unsigned_value : List Name → Immediate → Option ℤ
unsigned_value names (Whole e) = value_of names e
unsigned_value names (High e) = option_map (λ v. pos (high_half v)) (value_of names e)
unsigned_value names (Low e) = option_map (λ v. pos (low_half v)) (value_of names e)

-- the value, which on this line has to be known
abbrev pub known : {A : Type 0} → ℕ → Option A → Result A AsmFault
known line None = Err (fault.UnknownName line)
known line (Some v) = Ok v

-- a value from low to high
unfoldable pub within : ℕ → ℤ → ℤ → ℤ → Result ℤ AsmFault
within line low high v = if int_le low v && int_le v high then Ok v else Err (fault.Range line)

-- a value from 0 to high
unfoldable pub up_to : ℕ → ℕ → ℤ → Result ℕ AsmFault
up_to line high (pos n) = if nat_le n high then Ok n else Err (fault.Range line)
up_to line high (negsuc n) = Err (fault.Range line)

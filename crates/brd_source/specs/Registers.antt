-- The registers: $0 to $31, and their names (MD00086, and the System V ABI's names of them).
use Rattle.std.specs.Prelude.{ℕ, ◌==◌, if◌then◌else◌, List, [], ◌∷◌, Option, None}
use Rattle.brd_text.specs.Numbers.{plain_decimal_of}
use Rattle.brd_isa.specs.Names.{◌or_else◌}
use Rattle.brd_isa.specs.Registers.{register_named}

-- what stands after the $: a decimal number below 32, without leading zeros, or a name
unfoldable pub register_behind : List ℕ → Option ℕ
register_behind behind = plain_decimal_of behind 31 or_else register_named behind

-- the register that a run is
abbrev pub register_of : List ℕ → Option ℕ
register_of [] = None
register_of (b ∷ behind) = if b == 36 then register_behind behind else None

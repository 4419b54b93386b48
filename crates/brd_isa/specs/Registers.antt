-- The names of the registers (the System V ABI's), which stand after a $.
use Rattle.std.specs.Prelude.{ℕ, ◌+◌, if◌then◌else◌, List, [], ◌∷◌, Option, Some, None, codes}
use Rattle.std.specs.Str.{bytes_eq}
use Rattle.brd_isa.specs.Names.{named_in, ◌or_else◌}

-- in the order 0 to 31
abbrev pub register_names : List (List ℕ)
register_names =
    codes "zero" ∷ codes "at" ∷ codes "v0" ∷ codes "v1" ∷ codes "a0" ∷ codes "a1" ∷ codes "a2" ∷ codes "a3" ∷
    codes "t0" ∷ codes "t1" ∷ codes "t2" ∷ codes "t3" ∷ codes "t4" ∷ codes "t5" ∷ codes "t6" ∷ codes "t7" ∷
    codes "s0" ∷ codes "s1" ∷ codes "s2" ∷ codes "s3" ∷ codes "s4" ∷ codes "s5" ∷ codes "s6" ∷ codes "s7" ∷
    codes "t8" ∷ codes "t9" ∷ codes "k0" ∷ codes "k1" ∷ codes "gp" ∷ codes "sp" ∷ codes "fp" ∷ codes "ra" ∷ []

-- the place of a name in a list, counted from n
abbrev pub place_in : List (List ℕ) → ℕ → List ℕ → Option ℕ
place_in [] n name = None
place_in (known ∷ names) n name = if bytes_eq name known then Some n else place_in names (n + 1) name

-- the register that a name is; s8 is another one of fp
unfoldable pub register_named : List ℕ → Option ℕ
register_named name = place_in register_names 0 name or_else named_in ((codes "s8", 30) ∷ []) name

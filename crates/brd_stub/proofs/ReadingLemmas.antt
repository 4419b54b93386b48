-- What is read of memory.
use Rattle.std.proofs.Common.{◌≡◌, ℕ, List, [], ◌∷◌, length, refl, arith}
use Rattle.std.specs.Prelude.{codes}
use Rattle.brd_gdb.specs.Hexes.{hexed}
use Rattle.brd_stub.specs.Reading.{bytes_text}

-- the text of no bytes, and of some

pub none-text : (bytes : List ℕ) → length bytes ≡ 0 → bytes_text bytes ≡ codes "E01"
none-text [] none = refl
none-text (byte ∷ bytes) none = absurd (omega (arith, none))

pub some-text : (bytes : List ℕ) → (length bytes ≡ 0 → ⊥) → bytes_text bytes ≡ hexed bytes
some-text [] some = absurd (some refl)
some-text (byte ∷ bytes) some = refl

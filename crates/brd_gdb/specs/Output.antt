-- Text on GDB's console (GDB manual, "Stop Reply Packets", `O`): packets of the letter and the text's bytes in two
-- digits each, one after the other, so that each fits.
use Rattle.std.specs.Prelude.{◌≡◌, ◌<◌, ◌≤◌, ℕ, List, [], ◌∷◌, ◌++◌, length}
use Rattle.brd_gdb.specs.Hexes.{hexed}
use Rattle.brd_gdb.specs.Packets.{framed}

-- a packet that shows this part of a text
abbrev pub shown : List ℕ → List ℕ
shown part = framed (79 ∷ hexed part)

-- packets that show a text
pub data Outputs : List ℕ → List ℕ → Type 0 where
  nothing : Outputs [] []
  one_more : (text part bytes : List ℕ) → 0 < length part → length part ≤ 8191 → Outputs text bytes
      → Outputs (text ++ part) (bytes ++ shown part)

-- packets that show a text came at the end
pub record AddsOutput (text old new : List ℕ) : Type 0 where
  pub bytes : List ℕ
  pub show : Outputs text bytes
  pub added : new ≡ old ++ bytes

-- How a payload stands in a packet (GDB manual, "Overview"): `$`, the payload with escapes, `#`, and the sum of what
-- stands between them modulo 256 in two digits. Replies have no run-length encoding.
use Rattle.std.specs.Prelude.{ℕ, ◌+◌, ◌%◌, ◌==◌, Bool, ◌||◌, if◌then◌else◌, List, [], ◌∷◌, ◌++◌, sum}
use Rattle.std.specs.Int.Bits.{bit_xor}
use Rattle.brd_gdb.specs.Hexes.{hexed_byte}

-- a byte that isn't itself within a packet: `#`, `$`, `*`, which would begin a run, and `}`
unfoldable pub is_special : ℕ → Bool
is_special byte = (byte == 35) || (byte == 36) || (byte == 42) || (byte == 125)

-- a byte within a packet: itself, or `}` and the byte with its bit of 32 flipped
abbrev pub escape : ℕ → List ℕ
escape byte = if is_special byte then 125 ∷ bit_xor byte 32 ∷ [] else byte ∷ []

abbrev pub escaped : List ℕ → List ℕ
escaped [] = []
escaped (byte ∷ bytes) = escape byte ++ escaped bytes

abbrev pub checksum : List ℕ → ℕ
checksum bytes = sum bytes % 256

-- a packet of this payload
abbrev pub framed : List ℕ → List ℕ
framed payload = 36 ∷ (escaped payload ++ 35 ∷ hexed_byte (checksum (escaped payload)))

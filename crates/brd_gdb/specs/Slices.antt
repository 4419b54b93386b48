-- The parts of a text that GDB reads with `qXfer` (GDB manual, "qXfer read"): `m` before a part, or `l` before the
-- last.
use Rattle.std.specs.Prelude.{ℕ, ◌+◌, nat_lt, min, if◌then◌else◌, List, ◌∷◌, ◌++◌, length, take, drop}
use Rattle.brd_gdb.specs.Receiving.{packet_size}

-- how many bytes a part has at most: with its letter it fits a packet
abbrev pub most_part : ℕ
most_part = 16383

-- the part of a text from a place on
abbrev pub part_of : List ℕ → ℕ → ℕ → List ℕ
part_of text offset len = take (min len most_part) (drop offset text)

-- the answer: whether there is more after the part, and the part
abbrev pub slice_of : List ℕ → ℕ → ℕ → List ℕ
slice_of text offset len =
    (if nat_lt (offset + min len most_part) (length text) then 109 else 108) ∷ part_of text offset len

-- The bytes at watched addresses.
use Rattle.std.specs.Prelude.{◌≡◌, ◌⊎◌, ℕ, ◌<◌, Bool, false, List, [], length, slice_index, slice_index_or, Option}
use Rattle.std.specs.Prelude.{None}
use Rattle.brd_mem.specs.Memory.{Memory, byte_at}

-- the bytes that a memory has at addresses, in their order
abbrev pub AreBytesAt : List ℕ → Memory → List (Option ℕ) → Type 0
AreBytesAt addresses memory bytes =
    (i : ℕ) → i < length addresses → slice_index_or bytes i None ≡ byte_at memory (slice_index addresses i)

-- unless they may differ, nothing is watched, or two memories are the same
abbrev pub IsSameUnless : Bool → List ℕ → Memory → Memory → Type 0
IsSameUnless may_differ addresses old new = may_differ ≡ false → (addresses ≡ []) ⊎ (new ≡ old)

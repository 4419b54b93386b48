-- Memory as GDB reads it.
use Rattle.std.specs.Prelude.{◌≡◌, ℕ, ◌+◌, ◌%◌, ◌^◌, ◌<◌, ◌≤◌, min, List, [], ◌∷◌, length, codes, slice_index}
use Rattle.std.specs.Prelude.{Some, None}
use Rattle.brd_mem.specs.Memory.{Memory, byte_at}
use Rattle.brd_gdb.specs.Hexes.{hexed}

-- how many bytes of memory an answer has at most (own choice)
abbrev pub most_read : ℕ
most_read = 8192

-- The bytes that a memory has from an address on, up to n of them: after the last address comes the first.
pub record IsFront (memory : Memory) (address n : ℕ) (bytes : List ℕ) : Type 0 where
  pub most : length bytes ≤ n
  pub are : (i : ℕ) → i < length bytes → byte_at memory ((address + i) % 2 ^ 32) ≡ Some (slice_index bytes i)
  pub all : length bytes < n → byte_at memory ((address + length bytes) % 2 ^ 32) ≡ None

-- an error where there are none, else two hexadecimal digits each
abbrev pub bytes_text : List ℕ → List ℕ
bytes_text [] = codes "E01"
bytes_text (byte ∷ bytes) = hexed (byte ∷ bytes)

-- what is answered to a request for n bytes from an address on
pub record IsMemoryText (memory : Memory) (address n : ℕ) (reply : List ℕ) : Type 0 where
  pub bytes : List ℕ
  pub front : IsFront memory address (min n most_read) bytes
  pub text : reply ≡ bytes_text bytes

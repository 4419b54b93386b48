-- RAM: a map from addresses to bytes, kept as the list of the bytes from address 0x80000000 upward, and the order in
-- which the bytes of a halfword or a word lie.
use Rattle.std.specs.Prelude.{ℕ, ◌+◌, ◌-◌, Bool, ◌&&◌, nat_le, if◌then◌else◌, List, [], ◌∷◌, ◌++◌, length, take, drop}
use Rattle.std.specs.Prelude.{replicate, slice_index, Option, Some, None}
use Rattle.brd_base.specs.Space.{base}
use Rattle.brd_word.specs.declared.order.Order.{Order}
use Rattle.brd_word.specs.Words.{bytes_of_half, half_of_bytes, bytes_of_word, word_of_bytes}

pub record Memory : Type 0 where
  pub bytes : List ℕ
  pub order : Order

-- the memory of these bytes in this order
abbrev pub memory_of_bytes : Order → List ℕ → Memory
memory_of_bytes order bytes = record { bytes = bytes; order = order }

-- how many bytes there are
abbrev pub size_of : Memory → ℕ
size_of memory = length memory.bytes

-- n bytes, all zero
abbrev pub zeros : Order → ℕ → Memory
zeros order size = memory_of_bytes order (replicate size 0)

-- the addresses from this one on, as many as len, all lie in a RAM of that size
abbrev pub contains : ℕ → ℕ → ℕ → Bool
contains size address len = nat_le base address && nat_le (address + len) (base + size)

-- n bytes from a place on; with the next, what every access reads and writes by
abbrev pub bytes_at : Memory → ℕ → ℕ → List ℕ
bytes_at memory at len = take len (drop at memory.bytes)

-- the memory with these bytes from a place on
abbrev pub with_bytes : Memory → ℕ → List ℕ → Memory
with_bytes memory at bytes =
    record memory { bytes = take at memory.bytes ++ bytes ++ drop (at + length bytes) memory.bytes }

-- the byte at a place, and the halfword and the word that begin at a place
abbrev pub byte_from : Memory → ℕ → ℕ
byte_from memory at = slice_index (bytes_at memory at 1) 0

abbrev pub half_at : Memory → ℕ → ℕ
half_at memory at = half_of_bytes memory.order (bytes_at memory at 2)

abbrev pub word_at : Memory → ℕ → ℕ
word_at memory at = word_of_bytes memory.order (bytes_at memory at 4)

-- the memory with a byte at a place, and with a halfword or a word that begins there
abbrev pub put_byte : Memory → ℕ → ℕ → Memory
put_byte memory at byte = with_bytes memory at (byte ∷ [])

abbrev pub put_half : Memory → ℕ → ℕ → Memory
put_half memory at half = with_bytes memory at (bytes_of_half memory.order half)

abbrev pub put_word : Memory → ℕ → ℕ → Memory
put_word memory at word = with_bytes memory at (bytes_of_word memory.order word)

-- the byte at an address, where RAM has one
abbrev pub byte_at : Memory → ℕ → Option ℕ
byte_at memory address = if contains (size_of memory) address 1 then Some (byte_from memory (address - base)) else None

-- the memory with these bytes from an address on
abbrev pub copied : Memory → ℕ → List ℕ → Memory
copied memory address bytes = with_bytes memory (address - base) bytes

-- Words of RAM, as they are read without an event.
use Rattle.std.specs.Prelude.{ℕ, ◌+◌, ◌%◌, ◌^◌, [], ◌∷◌, Option, None, Some, Result, Ok, Err}
use Rattle.brd_word.specs.declared.order.Order.{Order}
use Rattle.brd_word.specs.Words.{word_of_bytes}
use Rattle.brd_mem.specs.declared.fault.Exc.{Exc}
use Rattle.brd_mem.specs.Memory.{Memory, byte_at}
use Rattle.brd_mem.specs.Access.{loaded32}

abbrev pub word_in : Order → Option ℕ → Option ℕ → Option ℕ → Option ℕ → Option ℕ
word_in order (Some a) (Some b) (Some c) (Some d) = Some (word_of_bytes order (a ∷ b ∷ c ∷ d ∷ []))
word_in order None second third fourth = None
word_in order (Some a) None third fourth = None
word_in order (Some a) (Some b) None fourth = None
word_in order (Some a) (Some b) (Some c) None = None

-- the word whose four bytes lie from an address on, where RAM has all of them
unfoldable pub word_from : Memory → ℕ → Option ℕ
word_from memory address =
    word_in memory.order (byte_at memory address) (byte_at memory ((address + 1) % 2 ^ 32))
    (byte_at memory ((address + 2) % 2 ^ 32))
    (byte_at memory ((address + 3) % 2 ^ 32))

abbrev pub word_found : Result ℕ Exc → Option ℕ
word_found (Ok word) = Some word
word_found (Err exc) = None

-- the aligned word at an address, where RAM has it: what is fetched there, and what LW loads
abbrev pub word_at : Memory → ℕ → Option ℕ
word_at memory address = word_found (loaded32 memory address)

-- What a fetch, a load and a store do.
use Rattle.std.specs.Prelude.{◌≡◌, ℕ, ◌-◌, ◌%◌, ◌==◌, if◌then◌else◌, Result, Ok, Err}
use Rattle.brd_base.specs.Space.{base}
use Rattle.brd_word.specs.declared.order.Order.{Order}
use Rattle.brd_word.specs.Words.{bytes_of_word, word_of_bytes}
use Rattle.brd_mem.specs.Memory.{Memory, size_of, contains, byte_from, put_byte, half_at, put_half, word_at, put_word}
use Rattle.brd_mem.specs.declared.fault.Exc.{Exc}

-- The place in RAM of `len` bytes from an address on. Alignment is tested first, then whether RAM has them (own choice
-- where MD00086 leaves the order open). A byte is always aligned.
abbrev pub place_of : Memory → ℕ → ℕ → Exc → Exc → Result ℕ Exc
place_of memory address len unaligned outside =
    if address % len == 0 then (if contains (size_of memory) address len then Ok (address - base) else Err outside)
    else Err unaligned

-- what is found at a place, or made there; or what was raised
abbrev pub at_place : {A : Type 0} → (ℕ → A) → Result ℕ Exc → Result A Exc
at_place found (Ok at) = Ok (found at)
at_place found (Err exc) = Err exc

-- the instruction word at an address
abbrev pub fetched : Memory → ℕ → Result ℕ Exc
fetched memory address = at_place (word_at memory) (place_of memory address 4 Exc.AdEL Exc.IBE)

-- the word of four bytes that make this number in the little-endian order, read in an order
abbrev pub read_raw : Order → ℕ → ℕ
read_raw order raw = word_of_bytes order (bytes_of_word Order.Little raw)

-- the data byte, halfword and word at an address
abbrev pub loaded8 : Memory → ℕ → Result ℕ Exc
loaded8 memory address = at_place (byte_from memory) (place_of memory address 1 Exc.AdEL Exc.DBE)

abbrev pub loaded16 : Memory → ℕ → Result ℕ Exc
loaded16 memory address = at_place (half_at memory) (place_of memory address 2 Exc.AdEL Exc.DBE)

abbrev pub loaded32 : Memory → ℕ → Result ℕ Exc
loaded32 memory address = at_place (word_at memory) (place_of memory address 4 Exc.AdEL Exc.DBE)

-- the memory with a data byte, halfword or word stored at an address
abbrev pub stored8 : Memory → ℕ → ℕ → Result Memory Exc
stored8 memory address byte = at_place (λ at. put_byte memory at byte) (place_of memory address 1 Exc.AdES Exc.DBE)

abbrev pub stored16 : Memory → ℕ → ℕ → Result Memory Exc
stored16 memory address half = at_place (λ at. put_half memory at half) (place_of memory address 2 Exc.AdES Exc.DBE)

abbrev pub stored32 : Memory → ℕ → ℕ → Result Memory Exc
stored32 memory address word = at_place (λ at. put_word memory at word) (place_of memory address 4 Exc.AdES Exc.DBE)

-- whether a data word could be stored at an address, or what the store would raise
abbrev pub storable32 : Memory → ℕ → Result Unit Exc
storable32 memory address = at_place (λ at. tt) (place_of memory address 4 Exc.AdES Exc.DBE)

-- A store that succeeds leaves the stored memory; one that is refused leaves memory as it was.
abbrev pub Stores : Result Memory Exc → Memory → Result Unit Exc → Memory → Type 0
Stores stored old (Ok x) new = stored ≡ Ok new
Stores stored old (Err exc) new = (stored ≡ Err exc) × (new ≡ old)

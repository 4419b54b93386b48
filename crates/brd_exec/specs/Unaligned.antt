-- The loads and stores of the parts of an unaligned word (MD00086, the entries LWL, LWR, SWL and SWR). They load or
-- store the aligned word that holds the address, so they raise no address error. The left ones speak of the bytes of
-- this word from the one at the address down to the least significant one, and of the register's most significant ones;
-- the right ones of the bytes from the most significant one down to the one at the address, and of the register's least
-- significant ones.
use Rattle.std.specs.Prelude.{ℕ, ◌+◌, ◌-◌, ◌*◌, ◌/◌, ◌%◌, ◌^◌, if◌then◌else◌, Result, Ok, Err}
use Rattle.brd_base.specs.Space.{base}
use Rattle.brd_word.specs.declared.order.Order.{Order}
use Rattle.brd_mem.specs.Memory.{Memory, size_of, contains, word_at, put_word}
use Rattle.brd_mem.specs.declared.fault.Exc.{Exc}

-- the address of the aligned word that holds an address
abbrev pub aligned : ℕ → ℕ
aligned address = address - address % 4

-- its place in RAM
abbrev pub aligned_place : ℕ → ℕ
aligned_place address = aligned address - base

-- how many bytes of that word are more significant than the one at the address
abbrev pub bytes_above : Order → ℕ → ℕ
bytes_above Order.Big address = address % 4
bytes_above Order.Little address = 3 - address % 4

-- Of an aligned word, a register's word, and the number p of bytes of the aligned word above the one at the address:

-- LWL: the word's low 4 - p bytes become the register's high ones; its low p bytes stay
abbrev pub left_loaded : ℕ → ℕ → ℕ → ℕ
left_loaded p word old = word * 2 ^ (8 * p) % 2 ^ 32 + old % 2 ^ (8 * p)

-- LWR: the word's high p + 1 bytes become the register's low ones; its high 3 - p bytes stay
abbrev pub right_loaded : ℕ → ℕ → ℕ → ℕ
right_loaded p word old = word / 2 ^ (8 * (3 - p)) + old / 2 ^ (8 * (p + 1)) * 2 ^ (8 * (p + 1))

-- SWL: the register's high 4 - p bytes become the word's low ones; its high p bytes stay
abbrev pub left_stored : ℕ → ℕ → ℕ → ℕ
left_stored p word register = register / 2 ^ (8 * p) + word / 2 ^ (8 * (4 - p)) * 2 ^ (8 * (4 - p))

-- SWR: the register's low p + 1 bytes become the word's high ones; its low 3 - p bytes stay
abbrev pub right_stored : ℕ → ℕ → ℕ → ℕ
right_stored p word register = register * 2 ^ (8 * (3 - p)) % 2 ^ 32 + word % 2 ^ (8 * (3 - p))

-- this, where RAM has the aligned word that holds an address
abbrev pub if_inside : {A : Type 0} → Memory → ℕ → A → Result A Exc
if_inside memory address found = if contains (size_of memory) (aligned address) 4 then Ok found else Err Exc.DBE

-- what a load finds: one of the above, of the aligned word and the register as it was
abbrev pub part_loaded : (ℕ → ℕ → ℕ → ℕ) → Memory → ℕ → ℕ → Result ℕ Exc
part_loaded of_words memory address old =
    if_inside memory address
    (of_words (bytes_above memory.order address) (word_at memory (aligned_place address)) old)

-- the memory that a store leaves: with one of the above, of the aligned word and the register, in the word's place
abbrev pub part_stored : (ℕ → ℕ → ℕ → ℕ) → Memory → ℕ → ℕ → Result Memory Exc
part_stored of_words memory address register =
    if_inside memory address
    (put_word memory (aligned_place address)
    (of_words (bytes_above memory.order address) (word_at memory (aligned_place address)) register))

abbrev pub loaded_left : Memory → ℕ → ℕ → Result ℕ Exc
loaded_left = part_loaded left_loaded

abbrev pub loaded_right : Memory → ℕ → ℕ → Result ℕ Exc
loaded_right = part_loaded right_loaded

abbrev pub stored_left : Memory → ℕ → ℕ → Result Memory Exc
stored_left = part_stored left_stored

abbrev pub stored_right : Memory → ℕ → ℕ → Result Memory Exc
stored_right = part_stored right_stored

-- Of the four bytes from an address on, the addresses of the most and of the least significant one: those that LWL and
-- SWL, LWR and SWR name to load or store the word of these bytes.
abbrev pub high_end : Order → ℕ → ℕ
high_end Order.Big address = address
high_end Order.Little address = address + 3

abbrev pub low_end : Order → ℕ → ℕ
low_end Order.Big address = address + 3
low_end Order.Little address = address

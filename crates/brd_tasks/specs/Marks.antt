-- The marks of the priorities of each processor: bits, 64 in a word. Only the contracts of private functions name
-- these.
use Rattle.std.specs.Prelude.{ℕ, ◌+◌, ◌*◌, ◌/◌, ◌%◌, ◌^◌, List, bit_and, bit_or, slice_index_or, slice_set}
use Rattle.std.specs.Int.{bit_at, bit_not, w64}

abbrev pub word_of : ℕ → ℕ → ℕ
word_of cpu priority = cpu * 4 + priority / 64

abbrev pub mark_at : List ℕ → ℕ → ℕ → ℕ
mark_at marks cpu priority = bit_at (slice_index_or marks (word_of cpu priority) 0) (priority % 64)

abbrev pub with_mark : ℕ → ℕ → List ℕ → List ℕ
with_mark cpu priority marks =
    slice_set marks (word_of cpu priority)
    (bit_or (slice_index_or marks (word_of cpu priority) 0) (1 * 2 ^ (priority % 64) % 2 ^ 64))

abbrev pub without_mark : ℕ → ℕ → List ℕ → List ℕ
without_mark cpu priority marks =
    slice_set marks (word_of cpu priority)
    (bit_and (slice_index_or marks (word_of cpu priority) 0) (bit_not w64 (1 * 2 ^ (priority % 64) % 2 ^ 64)))

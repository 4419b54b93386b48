-- The window of RAM round an address: the 64 words of the aligned 256 bytes that hold it (own choice of the size).
use Rattle.std.specs.Prelude.{ℕ, ◌+◌, ◌-◌, ◌*◌, ◌/◌, if◌then◌else◌, List, map, Option, Some, None}
use Rattle.std.specs.List.{range_with_len}
use Rattle.brd_base.specs.Space.{base}
use Rattle.brd_mem.specs.Memory.{Memory, size_of, contains, word_at}

-- the first address of the aligned 256 bytes round an address
abbrev pub window_start : ℕ → ℕ
window_start address = address / 256 * 256

-- n words, one after the other, the first of them at a place
unfoldable pub words_at : Memory → ℕ → ℕ → List ℕ
words_at memory at count = map (λ i. word_at memory (at + 4 * i)) (range_with_len 0 count)

-- the window round an address; none where its bytes don't all lie in RAM (a RAM has the whole window of each of its
-- addresses: `laws::ram_has_whole_windows`)
abbrev pub window_at : Memory → ℕ → Option (List ℕ)
window_at memory address =
    if contains (size_of memory) (window_start address) 256 then Some (words_at memory (window_start address - base) 64)
    else None

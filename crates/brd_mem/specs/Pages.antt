-- The pages of 4,096 bytes in which a memory differs from another of its size (own choice).
use Rattle.std.specs.Prelude.{ℕ, suc, zero, ◌+◌, ◌*◌, ◌/◌, ◌≤◌, if◌then◌else◌, bytes_eq, List, [], ◌∷◌, ◌++◌}
use Rattle.std.specs.List.{AllByRecursion}
use Rattle.brd_mem.specs.Memory.{Memory, size_of, bytes_at, with_bytes}
use Rattle.brd_mem.specs.declared.pages.Page.{Page}

-- how many bytes a page has
abbrev pub page_size : ℕ
page_size = 4096

-- the page of that number, counted from 0 at RAM's first byte
abbrev pub page_of : Memory → ℕ → Page
page_of memory number = record { number = number; bytes = bytes_at memory (number * page_size) page_size }

-- a memory with the bytes of these pages in their places
abbrev pub with_pages : Memory → List Page → Memory
with_pages memory [] = memory
with_pages memory (page ∷ pages) = with_pages (with_bytes memory (page.number * page_size) page.bytes) pages

-- the page of a number as a memory has it, where it differs from the base's
abbrev pub differing_at : ℕ → Memory → Memory → List Page
differing_at number base memory =
    if bytes_eq (page_of memory number).bytes (page_of base number).bytes then [] else page_of memory number ∷ []

-- those below a number
abbrev pub differing_below : ℕ → Memory → Memory → List Page
differing_below zero base memory = []
differing_below (suc n) base memory = differing_below n base memory ++ differing_at n base memory

-- those of a whole memory
abbrev pub differing : Memory → Memory → List Page
differing base memory = differing_below (size_of memory / page_size) base memory

-- pages lie inside a memory of that size
abbrev pub LieWithin : ℕ → List Page → Type 0
LieWithin size pages = AllByRecursion (λ page. page.number * page_size + page_size ≤ size) pages

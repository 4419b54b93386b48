-- Marks on the pages of a RAM.
use Rattle.std.specs.Prelude.{◌≡◌, ℕ, ◌*◌, ◌/◌, Bool, true, false, List, length, slice_index, slice_index_or}
use Rattle.brd_mem.specs.Pages.{page_size}

-- Each page has a mark, and one that isn't marked has only zeros.
pub record AreMarked (bytes : List ℕ) (marks : List Bool) : Type 0 where
  pub each : length marks * page_size ≡ length bytes
  pub zero : (i : ℕ) → slice_index_or marks (i / page_size) true ≡ false → slice_index bytes i ≡ 0

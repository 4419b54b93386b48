-- How a board starts with data.
use Rattle.std.specs.Prelude.{◌≡◌, ℕ, List, Ok}
use Rattle.brd_board.specs.Board.{BoardState}
use Rattle.brd_image.specs.Building.{loaded}
use Rattle.brd_mem.specs.declared.image.Segment.{Segment}
use Rattle.brd_patch.specs.Data.{with_data}

-- A board starts with data: it is the board of an object file and a configuration, but for its memory, in which the
-- pieces lie.
pub record StartsWithData (file config : List ℕ) (pieces : List Segment) (start : BoardState) : Type 0 where
  pub without : BoardState
  pub loads : loaded file config ≡ Ok without
  pub has : start ≡ record without { memory = with_data without.memory pieces }

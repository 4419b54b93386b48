-- How many processors a board has.
use Rattle.std.specs.Prelude.{ℕ, Bool, [], ◌∷◌, is_some}
use Rattle.std.specs.List.{prefix_len}
use Rattle.brd_board.specs.Board.{BoardState, standing_of}

-- whether a board has a processor of this number
unfoldable pub has_processor : BoardState → ℕ → Bool
has_processor board cpu = is_some (standing_of board cpu)

-- those from 1 on, up to the first number that has none, and to 8
abbrev pub processors_of : BoardState → ℕ
processors_of board = prefix_len (has_processor board) (1 ∷ 2 ∷ 3 ∷ 4 ∷ 5 ∷ 6 ∷ 7 ∷ 8 ∷ [])

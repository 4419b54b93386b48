-- Places as a search keeps them: their boards, and beside them what is left there and who has stepped last.
use Rattle.std.specs.Prelude.{◌≡◌, ℕ, List, [], ◌∷◌, ◌++◌, slice_get, Some}
use Rattle.brd_board.specs.Board.{BoardState}
use Rattle.brd_explore.specs.Schedules.{Place, IsRicher}
use Rattle.brd_places.specs.Places as kept
use Rattle.brd_spots.specs.declared.spots.Margin.{Margin}

abbrev pub spot_of : BoardState → Margin → Place
spot_of b margin = record { board = b; left = margin.left; last = margin.last }

-- the places whose boards are those of the first ones
abbrev pub spots_of : List kept.Place → List Margin → List Place
spots_of [] margins = []
spots_of (place ∷ boards) [] = []
spots_of (place ∷ boards) (margin ∷ margins) = spot_of place.board margin ∷ spots_of boards margins

-- a place is one of these
abbrev pub IsIn : List Place → Place → Type 0
IsIn spots p = (at : ℕ) × (slice_get spots at ≡ Some p)

-- there are no fewer than there were
abbrev pub IsMore : List Place → List Place → Type 0
IsMore old new = (more : List Place) × (new ≡ old ++ more)

-- One of these covers a place: it has the same board, the same processor has stepped last there, as many raises are
-- owed, and no less is left.
pub record IsKnown (spots : List Place) (p : Place) : Type 0 where
  pub place : Place
  pub there : IsIn spots place
  pub richer : IsRicher place p

-- The places through which a search goes.
use Rattle.std.specs.Prelude.{◌≡◌, ℕ, zero, suc, ◌<◌, List, [], ◌∷◌, ◌++◌, length, replicate, All}
use Rattle.brd_mem.specs.Memory.{size_of}
use Rattle.brd_board.specs.declared.event.Event.{Event}
use Rattle.brd_board.specs.Board.{BoardState, after}
use Rattle.brd_board.specs.Snapshot.{SnapshotState, restored, Fits}
use Rattle.brd_places.specs.declared.left.Left.{Left}
use Rattle.brd_places.specs.declared.entry.Entry.{Entry}
use Rattle.brd_places.specs.declared.kept.Kept.{Kept}

-- A place: a board, and what is left for the events behind it.
pub record Place : Type 0 where
  pub left : Left
  pub board : BoardState

-- the board of the place of an index; where there is none, that of the start
abbrev pub board_at : BoardState → List Place → ℕ → BoardState
board_at start [] i = start
board_at start (place ∷ places) zero = place.board
board_at start (place ∷ places) (suc i) = board_at start places i

-- the place to which one event n times leads
abbrev pub place_after : BoardState → Event → ℕ → Left → Place
place_after from event count left = record { left = left; board = after from (replicate count event) }

-- What follows is said by the contracts of private functions alone.

-- the place that an entry makes, behind those places
abbrev pub place_by : BoardState → List Place → Entry → Place
place_by start places entry = place_after (board_at start places entry.parent) entry.event entry.count entry.left

-- those places, and then each that an entry makes
abbrev pub places_after : BoardState → List Place → List Entry → List Place
places_after start places [] = places
places_after start places (entry ∷ entries) =
    places_after start (places ++ place_by start places entry ∷ []) entries

-- the places of entries
abbrev pub places_of : BoardState → List Entry → List Place
places_of start entries = places_after start [] entries

-- the events of entries, of which the last one comes first
abbrev pub events_back : List Entry → List Event
events_back [] = []
events_back (entry ∷ entries) = events_back entries ++ replicate entry.count entry.event

-- a snapshot of the place of an index
pub record IsSnapshotAt (start : BoardState) (entries : List Entry) (i : ℕ) (s : SnapshotState) : Type 0 where
  pub fits : Fits start s
  pub board : restored start s ≡ board_at start (places_of start entries) i
  pub within : i < length entries

abbrev pub AreKept : BoardState → List Entry → List Kept → Type 0
AreKept start entries kept = All (λ k. IsSnapshotAt start entries k.at k.snapshot) kept

-- boards of one size and order, which can be copied to each other
pub record AreAlike (a b : BoardState) : Type 0 where
  pub size : size_of a.memory ≡ size_of b.memory
  pub order : a.memory.order ≡ b.memory.order

-- The first place is the start.
pub record BeginsWith (start : BoardState) (entries : List Entry) : Type 0 where
  pub some : 0 < length entries
  pub first : board_at start (places_of start entries) 0 ≡ start

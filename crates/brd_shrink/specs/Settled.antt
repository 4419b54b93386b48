-- What is left of a list of events that fails, in an order with few switches.
use Rattle.std.specs.Prelude.{◌≡◌, ℕ, ◌<◌, ◌≤◌, true, false, List, ◌++◌, length}
use Rattle.std.specs.List.Sorted.{IsPermutation}
use Rattle.brd_board.specs.declared.event.Event.{Event}
use Rattle.brd_board.specs.Board.{BoardState}
use Rattle.brd_explore.specs.declared.wanted.Wanted.{Wanted}
use Rattle.brd_explore.specs.Shrinking.{is_failing}
use Rattle.brd_shrink.specs.Turns.{switches, is_cut, IsTurn, swapped}

-- Some of the events of a list, each at most as often, in whatever order: with a rest they are a permutation of it.
pub record AreSome (left all : List Event) : Type 0 where
  pub rest : List Event
  pub permutes : IsPermutation all (left ++ rest)

-- A list with fewer switches doesn't fail.
abbrev pub IsPassing : Wanted → BoardState → List Event → List Event → Type 0
IsPassing wanted b events other = switches other < switches events → is_failing wanted b other ≡ false

-- The turn that begins at an index can't be moved to another cut, an earlier or a later one, so that the list fails
-- still and has fewer switches.
pub record IsSettledAt (wanted : Wanted) (b : BoardState) (events : List Event) (from : ℕ) : Type 0 where
  pub earlier : (to at : ℕ) → IsTurn events from to → at < from → is_cut events at ≡ true →
      IsPassing wanted b events (swapped events at from to)
  pub later : (to at : ℕ) → IsTurn events from to → to < at → at ≤ length events → is_cut events at ≡ true →
      IsPassing wanted b events (swapped events from to at)

-- No turn can be moved so.
abbrev pub IsSettled : Wanted → BoardState → List Event → Type 0
IsSettled wanted b events = (from : ℕ) → IsSettledAt wanted b events from

-- The same events in an order with fewer switches, which fail still.
pub record IsBetter (wanted : Wanted) (b : BoardState) (events moved : List Event) : Type 0 where
  pub fails : is_failing wanted b moved ≡ true
  pub permutes : IsPermutation events moved
  pub fewer : switches moved < switches events

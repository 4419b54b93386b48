-- The data of a page, and the events of a run: each has an object that begins with whose step it was and where.
use Rattle.std.specs.Prelude.{◌≡◌, ℕ, zero, suc, ◌+◌, ◌-◌, ◌==◌, List, [], ◌++◌, slice_get, Some}
use Rattle.brd_board.specs.declared.event.Event.{Event}
use Rattle.brd_board.specs.Board.{BoardState}
use Rattle.brd_happening.specs.Happening.{happening_of}
use Rattle.brd_journal.specs.Playing.{board_at}
use Rattle.brd_page.specs.Data.{IsRow}

-- the object of the event of a position; the first one is that of another one
pub record IsEvent (boot : BoardState) (events : List Event) (from position : ℕ) (text : List ℕ) : Type 0 where
  pub event : Event
  pub is : slice_get events position ≡ Some event
  pub row :
      IsRow (position == from) (happening_of (board_at boot events position) event).cpu
      (happening_of (board_at boot events position) event).place text

-- an object behind others
pub record IsBehindEvents (Others : List ℕ → Type 0) (This : List ℕ → Type 0) (text : List ℕ) : Type 0 where
  pub front : List ℕ
  pub last : List ℕ
  pub others : Others front
  pub this : This last
  pub is_text : text ≡ front ++ last

-- the objects of the next n events from a position on, in their order
abbrev pub AreEvents : BoardState → List Event → ℕ → ℕ → List ℕ → Type 0
AreEvents boot events from zero text = text ≡ []
AreEvents boot events from (suc n) text =
    IsBehindEvents (AreEvents boot events from n) (IsEvent boot events from (from + n)) text

-- data that has those from one position to another somewhere, and ends behind them or goes on
pub record IsData (boot : BoardState) (events : List Event) (from to : ℕ) (text : List ℕ) : Type 0 where
  pub front : List ℕ
  pub middle : List ℕ
  pub rest : List ℕ
  pub are_events : AreEvents boot events from (to - from) middle
  pub is_text : text ≡ front ++ middle ++ rest

-- data that ends with those
pub record IsDataUpTo (boot : BoardState) (events : List Event) (from to : ℕ) (text : List ℕ) : Type 0 where
  pub front : List ℕ
  pub middle : List ℕ
  pub are_events : AreEvents boot events from (to - from) middle
  pub is_text : text ≡ front ++ middle

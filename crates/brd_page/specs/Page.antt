-- What a page is made of.
use Rattle.std.specs.Prelude.{◌≡◌, ◌⊎◌, ℕ, ◌≤◌, ◌-◌, true, List, ◌++◌}
use Rattle.std.specs.List.{list_all}
use Rattle.brd_board.specs.declared.event.Event.{Event}
use Rattle.brd_board.specs.Board.{BoardState}
use Rattle.brd_page.specs.Data.{is_plain}
use Rattle.brd_page.specs.Events.{IsData}
use Rattle.brd_page.specs.Picture.{IsDrawn}
use Rattle.brd_page.specs.declared.template.TheConstants.{FRONT, MIDDLE, REST}

-- the most events (own choice)
abbrev pub most_events : ℕ
most_events = 100000

-- the most bytes: 8 MiB (own choice)
abbrev pub most_bytes : ℕ
most_bytes = 8388608

-- the most events that are shown in any case, in however many bytes (own choice)
abbrev pub always_shown : ℕ
always_shown = 1000

-- A page of these parts: what stands before the picture, the picture, what stands before the data, the data, and the
-- rest. The data are plain: they neither end the element in which they stand nor begin one.
pub record IsPage (front picture middle json rest page : List ℕ) : Type 0 where
  pub parts : page ≡ front ++ picture ++ middle ++ json ++ rest
  pub plain : list_all is_plain json ≡ true

-- A page of the run of a board under these events, from one position to another, of the parts of this program's pages:
-- its picture and its data are of this run.
pub record IsRunPage (boot : BoardState) (events : List Event) (from to : ℕ) (page : List ℕ) : Type 0 where
  pub picture : List ℕ
  pub json : List ℕ
  pub is_page : IsPage FRONT.now picture MIDDLE.now json REST.now page
  pub drawn : IsDrawn boot events from to picture
  pub told : IsData boot events from to json

-- A page of the run from one position to another: of all its events, or of the last ones, and then of no fewer than are
-- shown in any case.
pub record IsLastPage (boot : BoardState) (events : List Event) (from to : ℕ) (page : List ℕ) : Type 0 where
  pub first : ℕ
  pub least : from ≤ first
  pub enough : (first ≡ from) ⊎ (always_shown ≤ to - first)
  pub is_page : IsRunPage boot events first to page

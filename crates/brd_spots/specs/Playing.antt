-- Schedules that are played event by event.
use Rattle.std.specs.Prelude.{◌≡◌, true, List}
use Rattle.brd_board.specs.declared.event.Event.{Event}
use Rattle.brd_explore.specs.Schedules.{Place, IsAmong, does, is_left, next}

-- An event leads from a place to another one: it is one of these, something is left for it, and it does something.
pub record IsPlayed (among : List Event) (p : Place) (event : Event) (to : Place) : Type 0 where
  pub one : IsAmong among event
  pub left : is_left p event ≡ true
  pub did : does p.board event ≡ true
  pub is : next p event ≡ to

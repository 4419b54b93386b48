-- The events so far were tried.
use Rattle.std.specs.Prelude.{◌≡◌, Some, slice_get}
use Rattle.brd_link.specs.LinkSet.{IsLinkSet}
use Rattle.brd_places.specs.Places.{Place}
use Rattle.brd_reach.specs.Rounds.{HaveTried, IsMore, sharing_for}
use Rattle.brd_reach.proofs.visit.visit.Given as goal

abbrev pub invariant-loop-event : goal.invariant-loop-event
invariant-loop-event l =
    (place : Place) → slice_get l.fn.places l.at ≡ Some place →
    IsMore l.fn.places l.places
    × (IsLinkSet place.board.links → HaveTried (sharing_for l.sharing l.wanted) l.among l.places place.left place.board l.event-index)

-- The events so far were tried.
use Rattle.std.specs.Prelude.{◌≡◌, slice_get, Some}
use Rattle.brd_link.specs.LinkSet.{IsLinkSet}
use Rattle.brd_reach.specs.Rounds.{sharing_for}
use Rattle.brd_spots.specs.Spots.{spot_of, IsMore}
use Rattle.brd_lazy.specs.Finding.{HaveTried}
use Rattle.brd_lazy.specs.Finds.{with_finds}
use Rattle.brd_lazy.proofs.visit.try_all.Given as goal

abbrev pub invariant-loop-event : goal.invariant-loop-event
invariant-loop-event l = record {
  more : IsMore (with_finds l.spots l.fn.finds.items) (with_finds l.spots l.finds.items);
  tried : slice_get l.spots l.at ≡ Some (spot_of l.board l.margin) → IsLinkSet l.board.links →
      HaveTried (sharing_for l.sharing l.wanted) l.among (with_finds l.spots l.finds.items) (spot_of l.board l.margin) l.event-index;
}

-- The places so far were gone through.
use Rattle.brd_reach.specs.Rounds.{sharing_for}
use Rattle.brd_spots.specs.Spots.{IsMore}
use Rattle.brd_lazy.specs.Finds.{AreGone, with_finds}
use Rattle.brd_lazy.proofs.part.visit_row.Given as goal

abbrev pub invariant-loop-at : goal.invariant-loop-at
invariant-loop-at l = record {
  more : IsMore (with_finds l.spots l.fn.finds.items) (with_finds l.spots l.finds.items);
  gone : AreGone (sharing_for l.sharing l.wanted) l.among l.wanted l.spots (with_finds l.spots l.finds.items) l.from l.at;
}

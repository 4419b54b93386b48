-- The events so far were tried.
use Rattle.brd_spots.specs.Spots.{spot_of, IsMore}
use Rattle.brd_only.specs.Finding.{HaveGone}
use Rattle.brd_only.proofs.visit.try_all.Given as goal

abbrev pub invariant-loop-event : goal.invariant-loop-event
invariant-loop-event l = record {
  more : IsMore l.fn.spots l.spots;
  gone : HaveGone l.among l.regions l.wanted l.spots (spot_of l.board l.margin) l.event-index;
}

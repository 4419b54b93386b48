-- The finds so far are known.
use Rattle.brd_spots.specs.Spots.{IsMore}
use Rattle.brd_lazy.specs.Finds.{AreSettled}
use Rattle.brd_lazy.proofs.settle.settle_all.Given as goal

abbrev pub invariant-loop-at : goal.invariant-loop-at
invariant-loop-at l = record {
  more : IsMore l.fn.spots l.spots;
  settled : AreSettled l.fn.spots l.finds l.at l.spots;
}

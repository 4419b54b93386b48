-- The finds so far are known.
use Rattle.brd_spots.specs.Spots.{IsMore}
use Rattle.brd_lazy.specs.Finds.{AreSettled}
use Rattle.brd_lazy.proofs.settle.settle.Given as goal

abbrev pub invariant-loop-find : goal.invariant-loop-find
invariant-loop-find l = record {
  more : IsMore l.fn.spots l.spots;
  settled : AreSettled l.fn.spots l.finds l.find-index l.spots;
}

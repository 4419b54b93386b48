-- The places so far were gone through.
use Rattle.brd_spots.specs.Spots.{IsMore}
use Rattle.brd_only.specs.Finding.{AreDone}
use Rattle.brd_only.proofs.finding.visit_all.Given as goal

abbrev pub invariant-loop-at : goal.invariant-loop-at
invariant-loop-at g l = record {
  more : IsMore l.fn.spots l.spots;
  done : AreDone l.among l.regions l.wanted l.spots l.at;
}

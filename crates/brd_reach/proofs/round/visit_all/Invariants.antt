-- The places so far were gone through.
use Rattle.brd_reach.specs.Rounds.{AreDone, IsMore, sharing_for}
use Rattle.brd_reach.proofs.round.visit_all.Given as goal

abbrev pub invariant-loop-at : goal.invariant-loop-at
invariant-loop-at l = record {
  more : IsMore l.fn.places l.places;
  done : AreDone (sharing_for l.sharing l.wanted) l.among l.wanted l.places l.at;
}

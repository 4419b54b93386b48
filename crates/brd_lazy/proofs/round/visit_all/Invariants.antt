-- The places so far were gone through.
use Rattle.std.specs.Prelude.{◌-◌, ◌≤◌, length}
use Rattle.brd_reach.specs.Rounds.{sharing_for}
use Rattle.brd_spots.specs.Spots.{IsMore}
use Rattle.brd_lazy.specs.Finding.{AreDone}
use Rattle.brd_lazy.proofs.round.visit_all.Given as goal

abbrev pub invariant-loop-at : goal.invariant-loop-at
invariant-loop-at g l = record {
  more : IsMore l.fn.spots l.spots;
  done : AreDone (sharing_for l.sharing l.wanted) l.among l.wanted l.spots l.at;
  within : l.at ≤ length l.spots;
}

abbrev pub decreases-loop-at : goal.decreases-loop-at
decreases-loop-at g l = l.most - l.at

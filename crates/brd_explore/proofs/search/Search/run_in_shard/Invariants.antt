-- What the turns so far have left out doesn't fail, and the path is still one from where the search began.
use Rattle.brd_explore.specs.Schedules.{Place}
use Rattle.brd_explore.specs.Searching.{IsSized, IsOnPath, turns_left}
use Rattle.brd_explore.specs.Knowing.{AreDone}
use Rattle.brd_explore.specs.Sharing.{NoneLeftIn}
use Rattle.brd_explore.proofs.search.Search.run_in_shard.Given as goal

abbrev pub invariant-loop-watch : goal.invariant-loop-watch
invariant-loop-watch g l = record {
  out : NoneLeftIn l.wanted l.deal l.among l.self → NoneLeftIn l.wanted l.deal l.among l.fn.self;
  on : (from : Place) → IsOnPath l.among from l.fn.self → IsOnPath l.among from l.self;
  known : AreDone l.wanted l.among l.known;
  sized : IsSized l.self;
}

abbrev pub decreases-loop-watch : goal.decreases-loop-watch
decreases-loop-watch g l = turns_left l.among l.self

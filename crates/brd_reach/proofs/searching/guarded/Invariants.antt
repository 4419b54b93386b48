-- What the failures so far watch is shared.
use Rattle.std.specs.Prelude.{ℕ, ◌<◌, slice_index_or}
use Rattle.brd_explore.specs.declared.wanted.Failure.{Failure}
use Rattle.brd_blocks.specs.Owning.{sharing_of}
use Rattle.brd_reach.specs.Reaching.{IsGuarded}
use Rattle.brd_reach.proofs.searching.guarded.Given as goal

abbrev pub invariant-loop-failure : goal.invariant-loop-failure
invariant-loop-failure l =
    (k : ℕ) (d : Failure) → k < l.failure-index → IsGuarded (sharing_of l.sharing) (slice_index_or l.wanted.failures k d)

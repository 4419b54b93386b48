-- All that was shared is, and the words so far are.
use Rattle.std.specs.Prelude.{ℕ, ◌<◌, slice_index_or}
use Rattle.brd_blocks.specs.Owning.{StayShared, sharing_of}
use Rattle.brd_reach.specs.Reaching.{IsSharedWord}
use Rattle.brd_reach.proofs.searching.guard_words.Given as goal

abbrev pub invariant-loop-address : goal.invariant-loop-address
invariant-loop-address l = record {
  stays : StayShared l.fn.sharing l.sharing;
  guarded :
      (k : ℕ) (d : ℕ) → k < l.address-index → IsSharedWord (sharing_of l.sharing) (slice_index_or l.words k d);
}

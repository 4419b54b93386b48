-- All that was shared is, and the words of the terms so far are.
use Rattle.std.specs.Prelude.{ℕ, ◌<◌, slice_index_or}
use Rattle.brd_explore.specs.declared.condition.Term.{Term}
use Rattle.brd_blocks.specs.Owning.{StayShared, sharing_of}
use Rattle.brd_reach.specs.Reaching.{IsSharedTerm}
use Rattle.brd_reach.proofs.searching.guard_terms.Given as goal

abbrev pub invariant-loop-term : goal.invariant-loop-term
invariant-loop-term l = record {
  stays : StayShared l.fn.sharing l.sharing;
  guarded :
      (k : ℕ) (d : Term) → k < l.term-index → IsSharedTerm (sharing_of l.sharing) (slice_index_or l.terms k d);
}

-- From the places that are kept so far no schedule fails, and what is left of the pending ones is as it was.
use Rattle.std.specs.Prelude.{List, length}
use Rattle.brd_board.specs.declared.event.Event.{Event}
use Rattle.brd_explore.specs.declared.search.Search.{Search}
use Rattle.brd_explore.specs.declared.wanted.Wanted.{Wanted}
use Rattle.brd_explore.specs.Knowing.{AreDone, AreOver, ArePending}
use Rattle.brd_explore.proofs.known.Known.settle.Given as goal

abbrev pub invariant-loop-kept : goal.invariant-loop-kept
invariant-loop-kept l = record {
  done : (wanted : Wanted) (among : List Event) → AreDone wanted among l.fn.self → AreOver wanted among l.height l.fn.self →
      AreDone wanted among l.self × AreOver wanted among l.height l.self;
  pending : (wanted : Wanted) (among : List Event) (search : Search) → ArePending wanted among search l.fn.self →
      ArePending wanted among search l.self;
}

abbrev pub decreases-loop-kept : goal.decreases-loop-kept
decreases-loop-kept l = length l.self.pending.items

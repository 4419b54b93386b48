-- What is left fails still.
use Rattle.std.specs.Prelude.{◌≡◌, true}
use Rattle.brd_explore.specs.Searching.{AreAlike}
use Rattle.brd_explore.specs.Shrinking.{is_failing, IsPart}
use Rattle.brd_explore.proofs.shrinking.leave_out_stretches.Given as goal

abbrev pub invariant-loop-size : goal.invariant-loop-size
invariant-loop-size l = record {
  fails : is_failing l.wanted l.board l.events.items ≡ true;
  part : IsPart l.events.items l.fn.events.items;
  alike : AreAlike l.scratch l.board;
}

abbrev pub decreases-loop-size : goal.decreases-loop-size
decreases-loop-size l = l.size

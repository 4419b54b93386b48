-- What is left fails still.
use Rattle.std.specs.Prelude.{◌≡◌, true, length}
use Rattle.brd_explore.specs.Searching.{AreAlike}
use Rattle.brd_explore.specs.Shrinking.{is_failing, IsPart}
use Rattle.brd_explore.proofs.shrinking.leave_out_each.Given as goal

abbrev pub invariant-loop-at : goal.invariant-loop-at
invariant-loop-at l = record {
  fails : is_failing l.wanted l.board l.events.items ≡ true;
  part : IsPart l.events.items l.fn.events.items;
  alike : AreAlike l.scratch l.board;
}

abbrev pub decreases-loop-at : goal.decreases-loop-at
decreases-loop-at l = length l.events.items

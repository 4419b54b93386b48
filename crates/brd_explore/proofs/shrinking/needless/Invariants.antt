-- None of the events so far can be left out.
use Rattle.brd_explore.specs.Searching.{AreAlike}
use Rattle.brd_explore.proofs.ShrinkLemmas.{NoneBelow}
use Rattle.brd_explore.proofs.shrinking.needless.Given as goal

abbrev pub invariant-loop-at : goal.invariant-loop-at
invariant-loop-at l = record {
  none : NoneBelow l.wanted l.board l.events l.at;
  alike : AreAlike l.scratch l.board;
}

-- Up to here nothing was left.
use Rattle.brd_explore.specs.Searching.{IsTooMuch, place_of}
use Rattle.brd_explore.proofs.search.Search.choice.Given as goal

abbrev pub invariant-loop-at : goal.invariant-loop-at
invariant-loop-at l = IsTooMuch l.among (place_of l.self) l.from l.at

-- Up to here none was to be chosen.
use Rattle.brd_explore.specs.Searching.{place_of}
use Rattle.brd_explore.specs.Sharing.{AreOthers}
use Rattle.brd_explore.proofs.search.Search.choice_in_shard.Given as goal

abbrev pub invariant-loop-at : goal.invariant-loop-at
invariant-loop-at l = AreOthers l.deal l.among (place_of l.self) l.from l.at

-- All that was shared is.
use Rattle.brd_blocks.specs.Owning.{StayShared}
use Rattle.brd_reach.proofs.searching.learn_turn.Given as goal

abbrev pub invariant-loop : goal.invariant-loop
invariant-loop l = StayShared l.fn.sharing l.sharing

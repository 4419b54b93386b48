-- All that was shared is.
use Rattle.brd_blocks.specs.Owning.{StayShared}
use Rattle.brd_reach.proofs.searching.learn_turns.Given as goal

abbrev pub invariant-loop-event : goal.invariant-loop-event
invariant-loop-event l = StayShared l.fn.sharing l.sharing

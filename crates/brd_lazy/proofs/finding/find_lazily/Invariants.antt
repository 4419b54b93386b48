-- What failures watch is shared.
use Rattle.brd_blocks.specs.Owning.{sharing_of}
use Rattle.brd_reach.specs.Reaching.{AreGuarded}
use Rattle.brd_lazy.proofs.finding.find_lazily.Given as goal

abbrev pub invariant-loop : goal.invariant-loop
invariant-loop g l = AreGuarded (sharing_of l.sharing) l.wanted.failures

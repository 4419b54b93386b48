use Rattle.brd_deeds.proofs.LoopLemmas.{settles-none, settles-next}
use Rattle.brd_deeds.proofs.log.Log.settle_all.Goals as goal

pub loop-strand-init : goal.loop-strand-init
loop-strand-init c = settles-none _

pub loop-strand-preserved : goal.loop-strand-preserved
loop-strand-preserved c = settles-next _ _ _ _ c.loop-strand.invariant c.in_ok-settle.ensures

use Rattle.brd_deeds.proofs.LoopLemmas.{sets-none, sets-next}
use Rattle.brd_deeds.proofs.log.Log.set_bits.Goals as goal

pub loop-bit-init : goal.loop-bit-init
loop-bit-init c = sets-none _ _ _ _

pub loop-bit-preserved : goal.loop-bit-preserved
loop-bit-preserved c = sets-next _ _ _ _ _ _ _ c.loop-bit.invariant c.in_ok-set_bit.ensures

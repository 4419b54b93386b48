use Rattle.brd_deeds.proofs.LoopLemmas.{gets-none, gets-next}
use Rattle.brd_deeds.proofs.log.Log.get_bits.Goals as goal

pub loop-bit-init : goal.loop-bit-init
loop-bit-init c = gets-none _ _ _ _

pub loop-bit-preserved : goal.loop-bit-preserved
loop-bit-preserved c = gets-next _ _ _ _ _ _ _ c.loop-bit.invariant c.in_ok-get_bit.ensures

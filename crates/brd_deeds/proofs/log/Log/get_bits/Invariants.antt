use Rattle.std.proofs.Common.{◌≡◌}
use Rattle.brd_deeds.specs.Acts.{gets_below}
use Rattle.brd_deeds.proofs.log.Log.get_bits.Given as goal

abbrev pub invariant-loop-bit : goal.invariant-loop-bit
invariant-loop-bit l = l.self ≡ gets_below l.fn.doer l.fn.id l.bits l.bit l.fn.self

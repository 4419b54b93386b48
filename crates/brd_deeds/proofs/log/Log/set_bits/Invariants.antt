use Rattle.std.proofs.Common.{◌≡◌}
use Rattle.brd_deeds.specs.Acts.{sets_below}
use Rattle.brd_deeds.proofs.log.Log.set_bits.Given as goal

abbrev pub invariant-loop-bit : goal.invariant-loop-bit
invariant-loop-bit l = l.self ≡ sets_below l.fn.doer l.fn.id l.fn.bits l.bit l.fn.self

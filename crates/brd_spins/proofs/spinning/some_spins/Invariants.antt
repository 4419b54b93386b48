use Rattle.std.proofs.Common.{[]}
use Rattle.brd_spins.specs.Since.{AreFound}
use Rattle.brd_spins.proofs.spinning.some_spins.Given as goal

abbrev pub invariant-loop-i : goal.invariant-loop-i
invariant-loop-i l = AreFound l.turnings l.i []

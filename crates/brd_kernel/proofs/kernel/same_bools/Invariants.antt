-- Those that were passed are equal.
use Rattle.std.proofs.Common.{◌≡◌, length, take}
use Rattle.brd_kernel.proofs.kernel.same_bools.Given as goal

abbrev pub invariant-loop-i : goal.invariant-loop-i
invariant-loop-i l = (length l.fn.a ≡ length l.fn.b) × (take l.i l.fn.a ≡ take l.i l.fn.b)

use Rattle.std.proofs.Common.{◌≡◌, ℕ, ◌≤◌, length, take}
use Rattle.brd_base.proofs.same.same_slices.Given as goal

abbrev pub invariant-loop-i : goal.invariant-loop-i
invariant-loop-i g l = (length l.fn.a ≡ length l.fn.b) × (take l.i l.fn.a ≡ take l.i l.fn.b)

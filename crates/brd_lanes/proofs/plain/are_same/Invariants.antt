use Rattle.std.proofs.Common.{◌≡◌, ℕ, ◌≤◌, ◌<◌, get_or}
use Rattle.brd_lanes.proofs.plain.are_same.Given as goal

abbrev pub invariant-loop-i : goal.invariant-loop-i
invariant-loop-i l = (k : ℕ) → l.fn.from ≤ k → k < l.i → get_or l.a k 0 ≡ get_or l.b k 0

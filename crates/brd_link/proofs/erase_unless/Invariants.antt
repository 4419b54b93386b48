use Rattle.std.proofs.Common.{◌≡◌, ℕ, ◌<◌, nat_lt, not, ◌&&◌, ◌==◌, if◌then◌else◌, slice_index}
use Rattle.std.specs.Int.{bit_at}
use Rattle.brd_link.proofs.erase_unless.Given as goal

-- the addresses up to here are erased unless kept, and the others are as they were
abbrev pub invariant-loop-index : goal.invariant-loop-index
invariant-loop-index l = (j : ℕ) → j < 8 → slice_index l.addresses j ≡ (if nat_lt j l.index && not (bit_at l.kept j == 1) then 0 else slice_index l.fn.addresses j)

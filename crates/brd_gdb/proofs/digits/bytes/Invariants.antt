use Rattle.std.proofs.Common.{◌≡◌, ◌++◌, length}
use Rattle.std.specs.Prelude.{option_map}
use Rattle.brd_gdb.specs.Hexes.{unhexed}
use Rattle.brd_gdb.proofs.digits.bytes.Given as goal

-- the bytes so far are before those of the digits that are left
abbrev pub invariant-loop-left : goal.invariant-loop-left
invariant-loop-left l = option_map (λ bytes. l.found.items ++ bytes) (unhexed l.left) ≡ unhexed l.digits

abbrev pub decreases-loop-left : goal.decreases-loop-left
decreases-loop-left l = length l.left

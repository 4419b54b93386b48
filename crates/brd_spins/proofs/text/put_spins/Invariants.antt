use Rattle.std.proofs.Common.{◌≡◌, ◌++◌, take}
use Rattle.std.specs.List.{flat_map}
use Rattle.brd_spins.specs.Text.{told_text}
use Rattle.brd_spins.proofs.text.put_spins.Given as goal

abbrev pub invariant-loop-i : goal.invariant-loop-i
invariant-loop-i l = l.out.items ≡ l.fn.out.items ++ flat_map (told_text l.symbols l.asked) (take l.i l.spins)

use Rattle.std.proofs.Common.{◌≡◌, ◌++◌, take}
use Rattle.std.specs.List.{flat_map}
use Rattle.brd_stacks.specs.Text.{overflow_text}
use Rattle.brd_stacks.proofs.text.put_overflows.Given as goal

abbrev pub invariant-loop-i : goal.invariant-loop-i
invariant-loop-i l = l.out.items ≡ l.fn.out.items ++ flat_map (overflow_text l.symbols) (take l.i l.tracks)

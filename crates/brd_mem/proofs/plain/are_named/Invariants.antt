-- The symbols that are left are named exactly where all of them are.
use Rattle.std.proofs.Common.{length}
use Rattle.std.specs.Prelude.{◌↔◌}
use Rattle.brd_mem.specs.Image.{AreNamed}
use Rattle.brd_mem.proofs.plain.are_named.Given as goal

abbrev pub invariant-loop-symbol : goal.invariant-loop-symbol
invariant-loop-symbol l = AreNamed l.left ↔ AreNamed l.symbols

abbrev pub decreases-loop-symbol : goal.decreases-loop-symbol
decreases-loop-symbol l = length l.left

-- No symbol that is left has the name exactly where none of all has it.
use Rattle.std.proofs.Common.{◌≢◌, length}
use Rattle.std.specs.Prelude.{◌↔◌}
use Rattle.std.specs.List.{AllByRecursion}
use Rattle.brd_mem.proofs.plain.is_new.Given as goal

abbrev pub invariant-loop-symbol : goal.invariant-loop-symbol
invariant-loop-symbol l =
    AllByRecursion (λ symbol. symbol.name ≢ l.name) l.left ↔ AllByRecursion (λ symbol. symbol.name ≢ l.name) l.symbols

abbrev pub decreases-loop-symbol : goal.decreases-loop-symbol
decreases-loop-symbol l = length l.left

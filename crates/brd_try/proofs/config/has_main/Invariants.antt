-- The symbols that are left have the value that all of them have.
use Rattle.std.proofs.Common.{◌≡◌, drop, codes}
use Rattle.brd_mem.specs.Image.{symbol_value}
use Rattle.brd_try.proofs.config.has_main.Given as goal

abbrev pub invariant-loop-symbol : goal.invariant-loop-symbol
invariant-loop-symbol l =
    symbol_value (drop l.symbol-index l.symbols) (codes "main") ≡ symbol_value l.symbols (codes "main")

-- What the names that are left have, after the bytes so far, makes the whole.
use Rattle.std.proofs.Common.{◌≡◌, ◌+◌, ◌^◌, ◌≤◌, min, length, drop}
use Rattle.std.specs.Prelude.{flat_map}
use Rattle.brd_elf.specs.File.{strings}
use Rattle.brd_elf.proofs.SymbolsAgain.{with_zero}
use Rattle.brd_elf.proofs.size.strings_len.Given as goal

abbrev pub invariant-loop-symbol : goal.invariant-loop-symbol
invariant-loop-symbol l = record {
  small : l.len ≤ 2 ^ 32;
  same : min (l.len + length (flat_map with_zero (drop l.symbol-index l.symbols))) (2 ^ 32) ≡ min (length (strings l.symbols)) (2 ^ 32);
}

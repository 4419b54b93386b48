-- What is still to be kept after the symbols so far makes all symbols.
use Rattle.std.proofs.Common.{◌≡◌, ◌+◌, ◌*◌, ◌-◌, []}
use Rattle.brd_elf.specs.Symbols.{kept_from}
use Rattle.brd_elf.proofs.symbols.keep_all.Given as goal

abbrev pub invariant-loop : goal.invariant-loop
invariant-loop l = record {
  place : l.at ≡ l.start + 16 * l.counter;
  strings : l.symbols.strings ≡ l.strings;
  same : kept_from l.order l.file l.strings l.at (l.count - l.counter) l.symbols.symbols ≡ kept_from l.order l.file l.strings l.start l.count [];
}

-- The symbols and strings so far, and those of the symbols that are left, are those of all.
use Rattle.std.proofs.Common.{◌≡◌, ◌^◌, ◌<◌, ◌++◌, length, take, drop, ◌∷◌, []}
use Rattle.std.specs.List.{AllByRecursion}
use Rattle.std.specs.Prelude.{flat_map}
use Rattle.brd_elf.specs.File.{symbol_entries_from}
use Rattle.brd_elf.proofs.parts.put_all_named.Given as goal

abbrev pub invariant-loop-symbol : goal.invariant-loop-symbol
invariant-loop-symbol l = record {
  entries : l.table.items ++ symbol_entries_from l.order (length l.strings.items) (drop l.symbol-index l.symbols) ≡ l.fn.table.items ++ symbol_entries_from l.order (length l.fn.strings.items) l.symbols;
  strings : l.strings.items ++ flat_map (λ symbol. symbol.name ++ 0 ∷ []) (drop l.symbol-index l.symbols) ≡ l.fn.strings.items ++ flat_map (λ symbol. symbol.name ++ 0 ∷ []) l.symbols;
  words : AllByRecursion (λ symbol. symbol.value < 2 ^ 32) (take l.symbol-index l.symbols);
}

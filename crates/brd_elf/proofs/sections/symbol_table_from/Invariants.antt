-- The first symbol table of the headers that are left is the first of all.
use Rattle.std.proofs.Common.{◌≡◌, ◌+◌, ◌*◌, ◌-◌}
use Rattle.brd_elf.specs.Symbols.{symbol_table_from}
use Rattle.brd_elf.proofs.sections.symbol_table_from.Given as goal

abbrev pub invariant-loop : goal.invariant-loop
invariant-loop l = record {
  place : l.at ≡ l.start + 40 * l.counter;
  same : symbol_table_from l.order l.file l.at (l.count - l.counter) ≡ symbol_table_from l.order l.file l.start l.count;
}

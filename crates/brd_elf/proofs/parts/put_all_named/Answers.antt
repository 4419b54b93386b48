use Rattle.std.proofs.Common.{[], ◌∷◌, ◌++◌, ◌∙◌, append_assoc, arith}
use Rattle.std.proofs.lemmas.Grind.{common_steps}
use Rattle.brd_elf.proofs.PartLemmas.{split, entries_go_on, flat_goes_on}
use Rattle.brd_elf.proofs.parts.put_all_named.Goals as goal

pub loop-symbol-preserved : goal.loop-symbol-preserved
loop-symbol-preserved c = record {
  entries = entries_go_on c.args.order c.loop-symbol.symbol-index c.loop-symbol.table.items c.loop-symbol.strings.items c.put_named.new.table.items c.put_named.new.strings.items _ c.args.symbols.now c.symbol-item.result c.loop-symbol-test.true c.symbol-item.is c.in_ok-put_named.ensures.entry c.in_ok-put_named.ensures.string c.loop-symbol.invariant.entries;
  strings = flat_goes_on (λ symbol. symbol.name ++ 0 ∷ []) c.loop-symbol.symbol-index c.loop-symbol.strings.items c.put_named.new.strings.items _ c.args.symbols.now c.symbol-item.result (split c.args.symbols.now c.loop-symbol.symbol-index c.symbol-item.result c.loop-symbol-test.true c.symbol-item.is) (c.in_ok-put_named.ensures.string ∙ append_assoc c.loop-symbol.strings.items c.symbol-item.result.name (0 ∷ [])) c.loop-symbol.invariant.strings;
  words = grind (arith, common_steps);
}

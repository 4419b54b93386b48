use Rattle.std.proofs.Common.{◌≡◌, drop, arith}
use Rattle.std.proofs.lemmas.List.{take_rest}
use Rattle.brd_elf.specs.Symbols.{section_at, symbol_table_from}
use Rattle.brd_elf.proofs.SectionLemmas.{goes_on, ends, is_done, is_kind, is_other_kind}
use Rattle.brd_elf.proofs.sections.symbol_table_from.Goals as goal

pub returns-then-section_at-eq2-clause-first : goal.returns-then-section_at-eq2-clause-first
returns-then-section_at-eq2-clause-first c =
    let read : c.section_at.result ≡ section_at c.args.order (drop c.loop.at c.args.file.now) = rw take_rest at c.section_at.ensures in
    ends c.args.order c.args.file.now c.loop.at c.args.count c.loop.counter (symbol_table_from c.args.order c.args.file.now c.args.start c.args.count) c.loop-test.true (is_kind _ _ read c.if-section_at-eq2.true) c.loop.invariant.same

pub loop-preserved : goal.loop-preserved
loop-preserved c =
    let read : c.section_at.result ≡ section_at c.args.order (drop c.loop.at c.args.file.now) = rw take_rest at c.section_at.ensures in
    record {
      place = omega arith;
      same = goes_on c.args.order c.args.file.now c.loop.at c.args.count c.loop.counter (symbol_table_from c.args.order c.args.file.now c.args.start c.args.count) c.loop-test.true (is_other_kind _ _ read c.if-section_at-eq2.false) c.loop.invariant.same;
    }

pub returns-clause-first : goal.returns-clause-first
returns-clause-first c = is_done c.args.order c.args.file.now c.loop.at c.args.count c.loop.counter (symbol_table_from c.args.order c.args.file.now c.args.start c.args.count) c.loop-test.false c.loop.invariant.same

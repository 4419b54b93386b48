use Rattle.std.proofs.Common.{◌≡◌, [], drop, ◌∙◌, arith}
use Rattle.std.proofs.lemmas.Result.{err_from_is_err_and}
use Rattle.std.proofs.lemmas.List.{take_rest}
use Rattle.brd_elf.specs.Symbols.{entry_at, kept_from}
use Rattle.brd_elf.proofs.SymbolLoop.{goes_on_copied, ends_copied, is_done}
use Rattle.brd_elf.proofs.symbols.keep_all.Goals as goal

pub returns-in_err-keep : goal.returns-in_err-keep
returns-in_err-keep c =
    let p = err_from_is_err_and c.from_residual-in_err-keep.result c.from_residual-in_err-keep.ensures.1 in
    let read : c.entry_at.result ≡ entry_at c.args.order (drop c.loop.at c.args.file.now) = rw take_rest at c.entry_at.ensures in
    rw (p.1, p.2) (ends_copied c.in_err-keep.field-0.0 c.args.order c.args.file.now c.args.strings.now c.loop.symbols.strings c.loop.at c.args.count c.loop.counter c.entry_at.result c.loop.symbols.symbols (kept_from c.args.order c.args.file.now c.args.strings.now c.args.start c.args.count [])
    c.loop.invariant.strings read c.loop-test.true c.in_err-keep.ensures.kept c.loop.invariant.same)

pub loop-preserved : goal.loop-preserved
loop-preserved c =
    let read : c.entry_at.result ≡ entry_at c.args.order (drop c.loop.at c.args.file.now) = rw take_rest at c.entry_at.ensures in
    record {
      place = omega arith;
      strings = c.in_ok-keep.ensures.strings ∙ c.loop.invariant.strings;
      same = goes_on_copied c.args.order c.args.file.now c.args.strings.now c.loop.symbols.strings c.loop.at c.args.count c.loop.counter c.entry_at.result c.loop.symbols.symbols c.keep.new.self.symbols (kept_from c.args.order c.args.file.now c.args.strings.now c.args.start c.args.count [])
          c.loop.invariant.strings read c.loop-test.true c.in_ok-keep.ensures.kept c.loop.invariant.same;
    }

pub returns : goal.returns
returns c = rw c.into_symbols.ensures (is_done c.args.order c.args.file.now c.args.strings.now c.loop.at c.args.count c.loop.counter c.loop.symbols.symbols (kept_from c.args.order c.args.file.now c.args.strings.now c.args.start c.args.count []) c.loop-test.false c.loop.invariant.same)

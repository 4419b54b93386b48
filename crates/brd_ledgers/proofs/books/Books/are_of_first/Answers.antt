use Rattle.std.proofs.Common.{refl, arith}
use Rattle.brd_ledgers.proofs.BookLemmas.{all_own, next_own}
use Rattle.brd_ledgers.proofs.books.Books.are_of_first.Goals.{else-from-processors-via-then-from-processors+else-count-gt0, else-from-processors-via-else-from-processors}
use Rattle.brd_ledgers.proofs.books.Books.are_of_first.Goals as goal

pub loop-cpu-preserved : goal.loop-cpu-preserved
loop-cpu-preserved g c =
    next_own c.args.processors c.args.self.now c.loop-cpu.cpu c.loop-cpu.invariant
    (λ some.
    elim c.else-from-processors.branch [
      | else-from-processors-via-then-from-processors+else-count-gt0 w ↦ absurd (omega (arith, some, w.count.ensures, w.if-count-gt0.false))
      | else-from-processors-via-else-from-processors w ↦ (omega (arith, c.loop-cpu.auto.cpu), omega (arith, w.if-from-processors.false, c.from.ensures))
    ])

pub returns : goal.returns
returns g c = (λ yes. all_own c.args.processors c.args.self.now (λ cpu within. c.loop-cpu.invariant cpu (omega (arith, within, c.loop-cpu-test.false, c.len-cpu-end.ensures.is))), λ own. refl)

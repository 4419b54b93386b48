use Rattle.std.proofs.Common.{◌≡◌, List, length, ap, subst, arith}
use Rattle.std.specs.Prelude.{get_or}
use Rattle.brd_explore.specs.declared.wanted.Failure.{Failure}
use Rattle.brd_reach.proofs.AnswerLemmas.{guard-next}
use Rattle.brd_reach.proofs.searching.guarded.Goals as goal

pub loop-failure-preserved : goal.loop-failure-preserved
loop-failure-preserved c =
    guard-next c.loop-failure.sharing c.guard.new.sharing c.args.wanted.now.failures c.loop-failure.failure-index c.failure-item.result
    c.loop-failure.invariant c.guard.ensures.stays c.guard.ensures.guarded
    (subst (λ (fs : List Failure). c.failure-item.result ≡ get_or fs c.loop-failure.failure-index c.failure-item.result)
    c.as_slice-failure-items.ensures c.failure-item.is)
    (omega (arith, c.loop-failure-test.true, ap (λ (fs : List Failure). length fs) c.as_slice-failure-items.ensures))

pub returns : goal.returns
returns c = λ k d less. c.loop-failure.invariant k d (omega (arith, less, c.loop-failure-test.false, ap (λ (fs : List Failure). length fs) c.as_slice-failure-items.ensures))

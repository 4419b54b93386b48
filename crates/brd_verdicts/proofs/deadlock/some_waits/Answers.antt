use Rattle.std.proofs.Common.{sym, refl, ◌∙◌, arith}
use Rattle.std.proofs.lemmas.Bool.{false≢true}
use Rattle.brd_verdicts.specs.Deadlock.{Waits}
use Rattle.brd_verdicts.proofs.DeadlockLemmas.{none-more}
use Rattle.brd_verdicts.proofs.deadlock.some_waits.Goals as goal

pub loop-id-init : goal.loop-id-init
loop-id-init c = record {
  least = omega arith;
  most = omega arith;
  none = λ id some few is. absurd
      (omega (arith, some, few));
}

pub loop-id-preserved : goal.loop-id-preserved
loop-id-preserved c = record {
  least = omega arith;
  most = omega (arith, c.loop-id-test.true);
  none = none-more Waits c.args.board.now c.loop-id.id c.loop-id.invariant.none
      (λ is. false≢true (sym c.if-waits.false ∙ c.waits.ensures.1 is));
}

pub returns-then-waits : goal.returns-then-waits
returns-then-waits c = (
  λ _. record {
    id = c.loop-id.id;
    number = (c.loop-id.invariant.least, omega (arith, c.loop-id-test.true));
    is = c.waits.ensures.0 c.if-waits.true;
  },
  λ _. refl,
)

pub returns : goal.returns
returns c = (
  λ it. absurd (false≢true it),
  λ has. absurd (c.loop-id.invariant.none has.id has.number.0
      (omega (arith, has.number.1, c.loop-id-test.false)) has.is),
)

use Rattle.std.proofs.Common.{sym, refl, ◌∙◌, arith}
use Rattle.std.proofs.lemmas.Bool.{false≢true}
use Rattle.brd_verdicts.proofs.DeadlockLemmas.{none-due}
use Rattle.brd_verdicts.proofs.deadlock.some_handler_is_due.Goals as goal

pub loop-place-init : goal.loop-place-init
loop-place-init c = record {
  most = omega arith;
  none = λ place few is. absurd (omega (arith, few));
}

pub loop-place-preserved : goal.loop-place-preserved
loop-place-preserved c = record {
  most = omega (arith, c.loop-place-test.true);
  none = none-due c.args.board.now c.loop-place.place c.loop-place.invariant.none
      (λ is. false≢true (sym c.if-is_due.false ∙ c.is_due.ensures.1 is));
}

pub returns-then-is_due : goal.returns-then-is_due
returns-then-is_due c = (
  λ _. record {
    place = c.loop-place.place;
    number = omega (arith, c.loop-place-test.true);
    is = c.is_due.ensures.0 c.if-is_due.true;
  },
  λ _. refl,
)

pub returns : goal.returns
returns c = (
  λ it. absurd (false≢true it),
  λ has. absurd (c.loop-place.invariant.none has.place (omega (arith, has.number, c.loop-place-test.false)) has.is),
)

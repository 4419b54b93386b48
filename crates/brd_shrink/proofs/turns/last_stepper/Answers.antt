use Rattle.std.proofs.Common.{◌-◌, None, take, ap, sym, ◌∙◌, arith}
use Rattle.brd_board.specs.declared.event.Event.TheVariants.{Step}
use Rattle.brd_shrink.specs.Turns.{stepper, stepper_after}
use Rattle.brd_shrink.proofs.TurnLemmas.{stepper-front, no-step}
use Rattle.brd_shrink.proofs.turns.last_stepper.Goals as goal

pub returns-in-Step : goal.returns-in-Step
returns-in-Step c =
    sym (ap (stepper (stepper_after None (take (c.loop-at.at - 1) c.args.events.now))) c.in-Step.is)
    ∙ sym (stepper-front c.args.events.now c.loop-at.at (Step 0) c.loop-at-test.true c.loop-at.invariant.within)
    ∙ c.loop-at.invariant.last

pub loop-at-preserved : goal.loop-at-preserved
loop-at-preserved c = record {
  within = omega (arith, c.loop-at.invariant.within);
  last = sym (no-step (stepper_after None (take (c.loop-at.at - 1) c.args.events.now)) _ c.in_default.not-Step)
      ∙ sym (stepper-front c.args.events.now c.loop-at.at (Step 0) c.loop-at-test.true c.loop-at.invariant.within)
      ∙ c.loop-at.invariant.last;
}

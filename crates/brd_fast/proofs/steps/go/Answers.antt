use Rattle.std.proofs.Common.{◌+◌, ◌∙◌, refl, arith}
use Rattle.brd_fast.proofs.StepLemmas.{went-sum}
use Rattle.brd_fast.proofs.steps.go.Goals as goal

pub passes-preserved : goal.passes-preserved
passes-preserved c = record {
  few = omega (arith, c.known_steps-done.ensures.few, c.passes.invariant.few);
  leads = went-sum c.args.cpu c.passes.done c.known_steps-done.result (c.passes.done + c.known_steps-done.result)
      (record { state = c.args.context.now; memory = c.args.ram.now; links = c.args.links.now })
      (record { state = c.passes.context; memory = c.passes.ram; links = c.passes.links }) refl c.passes.invariant.leads
      ∙ c.known_steps-done.ensures.steps;
}

pub returns-then-done-count-clause-steps : goal.returns-then-done-count-clause-steps
returns-then-done-count-clause-steps c =
    went-sum c.args.cpu c.passes.done c.known_steps-done.result (c.passes.done + c.known_steps-done.result)
    (record { state = c.args.context.now; memory = c.args.ram.now; links = c.args.links.now })
    (record { state = c.passes.context; memory = c.passes.ram; links = c.passes.links }) refl c.passes.invariant.leads
    ∙ c.known_steps-done.ensures.steps

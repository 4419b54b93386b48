use Rattle.std.proofs.Common.{◌≡◌, false, None, Some, subst, sym, ap, ◌∙◌, arith}
use Rattle.brd_exec.specs.Lent.{lent_step}
use Rattle.brd_lent.proofs.LentLemmas.{was-none}
use Rattle.brd_lent.proofs.decoded.Decoded.run.Goals as goal

pub returns-then-not-step : goal.returns-then-not-step
returns-then-not-step c =
    let window = c.args.window.now in
    let s = c.loop-done.context in
    let stopped : c.step.result ≡ false = cc in
    let none = was-none (lent_step s window c.args.start) s c.step.result c.step.new.context stopped c.step.ensures in
    record {
      led = c.loop-done.invariant ∙ ap Some (sym none.1);
      few = omega arith;
      end = λ less. subst (λ after. lent_step after window c.args.start ≡ None) (sym none.1) none.0;
    }

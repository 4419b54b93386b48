use Rattle.std.proofs.Common.{◌≡◌, false, replicate, refl, sym, ap, subst, ◌∙◌}
use Rattle.std.specs.Prelude.{None}
use Rattle.brd_kernel.specs.Kernel.{executor_on, deliverable}
use Rattle.brd_board.specs.declared.event.Event.TheVariants.{Step}
use Rattle.brd_board.specs.Board.{BoardState, after}
use Rattle.brd_board.specs.Batch.{AllRun}
use Rattle.brd_board.proofs.BatchLemmas.{none-is, batch-goes, batch-runs}
use Rattle.brd_board.proofs.board.Board.batch.Goals as goal

pub returns-in-Read-clause-done : goal.returns-in-Read-clause-done
returns-in-Read-clause-done c =
    let k = c.self.inside.kernel in
    let on : k.off ≡ false = ap (λ (b : BoardState). b.kernel.off) c.self.view_is ∙ sym c.is_off.ensures ∙ c.if-is_off.false in
    let uninterrupted : deliverable k c.args.cpu ≡ None =
    sym c.deliverable.ensures.is ∙ none-is c.deliverable.result (sym c.is_some.ensures ∙ c.if-is_some.false) in
    batch-goes _ c.args.cpu c.run_batch.result (executor_on k c.args.cpu) c.run_batch.new.kernel c.run_batch.new.ram c.run_batch.new.links on uninterrupted refl
    c.run_batch.ensures.place c.run_batch.ensures.is
    ∙ ap (λ (b : BoardState). after b (replicate c.run_batch.result (Step c.args.cpu))) c.self.view_is

pub returns-in-Read-clause-ran : goal.returns-in-Read-clause-ran
returns-in-Read-clause-ran c =
    let k = c.self.inside.kernel in
    let on : k.off ≡ false = ap (λ (b : BoardState). b.kernel.off) c.self.view_is ∙ sym c.is_off.ensures ∙ c.if-is_off.false in
    let uninterrupted : deliverable k c.args.cpu ≡ None =
    sym c.deliverable.ensures.is ∙ none-is c.deliverable.result (sym c.is_some.ensures ∙ c.if-is_some.false) in
    let P : BoardState → Type 0 = λ b. AllRun b c.args.cpu c.run_batch.result in
    subst P c.self.view_is
    (batch-runs _ c.args.cpu c.run_batch.result (executor_on k c.args.cpu) c.run_batch.new.kernel c.run_batch.new.ram c.run_batch.new.links on uninterrupted refl
    c.run_batch.ensures.place c.run_batch.ensures.is)

use Rattle.std.proofs.Common.{sym, ap, ◌∙◌}
use Rattle.std.proofs.lemmas.Result.{err_from_is_err_and}
use Rattle.brd_board.proofs.SetupLemmas.{behind, fails}
use Rattle.brd_board.proofs.TimeHandlerLemmas.{placed-stop, placed-on, placed-end}
use Rattle.brd_board.proofs.time_handlers.cyclics_of.Goals as goal

pub returns-in_err-line : goal.returns-in_err-line
returns-in_err-line c =
    let p = err_from_is_err_and c.from_residual.result c.from_residual.ensures.1 in
    rw (p.1, p.2)
    (fails c.in_err-line.field-0.0 _
    (sym c.loop-cyclic.invariant
    ∙ ap (behind c.loop-cyclic.lines) (placed-stop _ _ _ c.cyclic-item.result _ c.loop-cyclic-test.true c.cyclic-item.is (sym c.placed_cyclic.ensures ∙ c.in_err-line.was))))

pub loop-cyclic-preserved : goal.loop-cyclic-preserved
loop-cyclic-preserved c =
    rw c.in_ok-push.ensures.ok
    (placed-on _ _ _ c.cyclic-item.result c.in_ok-line.line _ c.loop-cyclic-test.true c.cyclic-item.is (sym c.placed_cyclic.ensures ∙ c.in_ok-line.was))
    ∙ c.loop-cyclic.invariant

pub returns : goal.returns
returns c = sym c.loop-cyclic.invariant ∙ placed-end _ _ _ _ c.loop-cyclic-test.false

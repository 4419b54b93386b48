use Rattle.std.proofs.Common.{sym, ap, ◌∙◌}
use Rattle.std.proofs.lemmas.Result.{err_from_is_err_and}
use Rattle.brd_board.proofs.SetupLemmas.{behind, fails, handlers-stop, handlers-on, handlers-end}
use Rattle.brd_board.proofs.setup.handlers_of.Goals as goal

pub returns-in_err-address : goal.returns-in_err-address
returns-in_err-address c =
    let p = err_from_is_err_and c.from_residual.result c.from_residual.ensures.1 in
    rw (p.1, p.2)
    (fails c.in_err-address.field-0.0 _
    (sym c.loop-handler.invariant
    ∙ ap (behind c.loop-handler.lines) (handlers-stop _ _ _ _ c.handler-item.result _ c.loop-handler-test.true c.handler-item.is (sym c.handler_address.ensures ∙ c.in_err-address.was))))

pub loop-handler-preserved : goal.loop-handler-preserved
loop-handler-preserved c =
    rw (c.in_ok-push.ensures.ok, c.line_of.ensures)
    (handlers-on _ _ _ _ c.handler-item.result c.in_ok-address.address _ c.loop-handler-test.true c.handler-item.is (sym c.handler_address.ensures ∙ c.in_ok-address.was)
    ∙ c.loop-handler.invariant)

pub returns : goal.returns
returns c = sym c.loop-handler.invariant ∙ handlers-end _ _ _ _ _ c.loop-handler-test.false

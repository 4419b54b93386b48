use Rattle.std.proofs.Common.{sym, ap, ◌∙◌}
use Rattle.std.proofs.lemmas.Result.{err_from_is_err_and}
use Rattle.brd_board.proofs.SetupLemmas.{behind, fails}
use Rattle.brd_board.proofs.TimeHandlerLemmas.{placed-stop, placed-on, placed-end}
use Rattle.brd_board.proofs.time_handlers.alarms_of.Goals as goal

pub returns-in_err-line : goal.returns-in_err-line
returns-in_err-line c =
    let p = err_from_is_err_and c.from_residual.result c.from_residual.ensures.1 in
    rw (p.1, p.2)
    (fails c.in_err-line.field-0.0 _
    (sym c.loop-alarm.invariant
    ∙ ap (behind c.loop-alarm.lines) (placed-stop _ _ _ c.alarm-item.result _ c.loop-alarm-test.true c.alarm-item.is (sym c.placed_alarm.ensures ∙ c.in_err-line.was))))

pub loop-alarm-preserved : goal.loop-alarm-preserved
loop-alarm-preserved c =
    rw c.in_ok-push.ensures.ok
    (placed-on _ _ _ c.alarm-item.result c.in_ok-line.line _ c.loop-alarm-test.true c.alarm-item.is (sym c.placed_alarm.ensures ∙ c.in_ok-line.was))
    ∙ c.loop-alarm.invariant

pub returns : goal.returns
returns c = sym c.loop-alarm.invariant ∙ placed-end _ _ _ _ c.loop-alarm-test.false

use Rattle.std.proofs.Common.{◌≡◌, subst}
use Rattle.std.specs.Prelude.{IfOk}
use Rattle.brd_report.specs.Report.{report_of}
use Rattle.brd_running.proofs.run_command.report_after.Goals as goal

pub returns : goal.returns
returns g c = subst (λ shown. IfOk c.report.result (λ output. output.items ≡ shown))
    (λ i. report_of (c.len.ensures.len i) (c.replay-board.ensures i)) c.report.ensures

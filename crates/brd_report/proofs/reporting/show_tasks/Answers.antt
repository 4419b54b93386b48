use Rattle.std.proofs.Common.{◌++◌, ◌∙◌, arith}
use Rattle.brd_board.specs.Board.{task_of}
use Rattle.brd_report.specs.Report.{task_line}
use Rattle.brd_report.proofs.ReportLemmas.{next_line}
use Rattle.brd_report.proofs.reporting.show_tasks.Goals as goal

pub loop-id-preserved : goal.loop-id-preserved
loop-id-preserved c =
    next_line (λ id. task_line id (task_of c.args.board.now id)) c.loop-id.out.items c.show_task.new.out.items _ c.loop-id.id 256
    (omega (arith, c.loop-id-test.true))
    (c.in_ok-show_task.ensures ∙ (λ i. c.loop-id.out.items ++ task_line c.loop-id.id (c.task.ensures i))) c.loop-id.invariant

use Rattle.std.proofs.Common.{◌++◌, ◌∙◌, arith}
use Rattle.brd_board.specs.Board.{standing_of, registers_of}
use Rattle.brd_report.specs.Report.{processor_line}
use Rattle.brd_report.proofs.ReportLemmas.{next_line}
use Rattle.brd_report.proofs.reporting.show_processors.Goals as goal

pub loop-cpu-preserved : goal.loop-cpu-preserved
loop-cpu-preserved c =
    next_line (λ cpu. processor_line cpu (standing_of c.args.board.now cpu) (registers_of c.args.board.now cpu)) c.loop-cpu.out.items
    c.show_processor.new.out.items _ c.loop-cpu.cpu 9 (omega (arith, c.loop-cpu-test.true))
    (c.in_ok-show_processor.ensures ∙ (λ i. c.loop-cpu.out.items ++ processor_line c.loop-cpu.cpu (c.standing.ensures i) (c.registers.ensures i)))
    c.loop-cpu.invariant

-- The lines so far, and those of the processors that are left, are those of all.
use Rattle.std.proofs.Common.{◌≡◌, ◌++◌, ◌-◌}
use Rattle.std.specs.List.{flat_map, range_with_len}
use Rattle.brd_board.specs.Board.{standing_of, registers_of}
use Rattle.brd_report.specs.Report.{processor_line, processors_shown}
use Rattle.brd_report.proofs.reporting.show_processors.Given as goal

abbrev pub invariant-loop-cpu : goal.invariant-loop-cpu
invariant-loop-cpu l =
    l.out.items ++ flat_map (λ cpu. processor_line cpu (standing_of l.board cpu) (registers_of l.board cpu)) (range_with_len l.cpu (9 - l.cpu)) ≡ l.fn.out.items ++ processors_shown l.board

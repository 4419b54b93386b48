-- The lines so far, and those of the tasks that are left, are those of all.
use Rattle.std.proofs.Common.{◌≡◌, ◌++◌, ◌-◌}
use Rattle.std.specs.List.{flat_map, range_with_len}
use Rattle.brd_board.specs.Board.{task_of}
use Rattle.brd_report.specs.Report.{task_line, tasks_shown}
use Rattle.brd_report.proofs.reporting.show_tasks.Given as goal

abbrev pub invariant-loop-id : goal.invariant-loop-id
invariant-loop-id l =
    l.out.items ++ flat_map (λ id. task_line id (task_of l.board id)) (range_with_len l.id (256 - l.id)) ≡ l.fn.out.items ++ tasks_shown l.board

use Rattle.std.proofs.Common.{◌≡◌, ◌+◌, drop}
use Rattle.std.specs.List.{prefix_len}
use Rattle.brd_threads.specs.Processors.{has_processor}
use Rattle.brd_threads.proofs.boards.present.Given as goal

abbrev pub invariant-loop-i : goal.invariant-loop-i
invariant-loop-i l = l.i + prefix_len (has_processor l.board) (drop l.i l.numbers) ≡ prefix_len (has_processor l.board) l.numbers

-- The lines so far stand at the end.
use Rattle.std.proofs.Common.{◌≡◌, ◌++◌}
use Rattle.brd_try.specs.Told.{lines_to}
use Rattle.brd_try.proofs.told.put_tasks.Given as goal

abbrev pub invariant-loop-before : goal.invariant-loop-before
invariant-loop-before l = l.out.items ≡ l.fn.out.items ++ lines_to l.tasks l.board l.before

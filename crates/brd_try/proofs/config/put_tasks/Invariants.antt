-- The tasks so far stand at the end.
use Rattle.std.proofs.Common.{◌≡◌, ◌++◌}
use Rattle.brd_try.specs.Config.{tasks_text}
use Rattle.brd_try.proofs.config.put_tasks.Given as goal

abbrev pub invariant-loop-before : goal.invariant-loop-before
invariant-loop-before l = l.out.items ≡ l.fn.out.items ++ tasks_text l.before l.start

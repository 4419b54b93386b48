use Rattle.std.proofs.Common.{◌≡◌, replicate}
use Rattle.brd_tasks.proofs.marks.no_marks.Given as goal

abbrev pub invariant-loop : goal.invariant-loop
invariant-loop l = l.marks.items ≡ replicate l.counter 0

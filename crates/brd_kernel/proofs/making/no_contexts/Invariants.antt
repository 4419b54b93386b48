use Rattle.std.proofs.Common.{◌≡◌, replicate}
use Rattle.brd_tasks.specs.Tasks.{no_context}
use Rattle.brd_kernel.proofs.making.no_contexts.Given as goal

abbrev pub invariant-loop : goal.invariant-loop
invariant-loop l = l.made.items ≡ replicate l.counter no_context

use Rattle.std.proofs.Common.{◌≡◌}
use Rattle.brd_tasks.specs.Tasks.{first_contexts}
use Rattle.brd_tasks.proofs.making.contexts_of.Given as goal

abbrev pub invariant-loop-id : goal.invariant-loop-id
invariant-loop-id l = l.contexts.items ≡ first_contexts l.setups l.id

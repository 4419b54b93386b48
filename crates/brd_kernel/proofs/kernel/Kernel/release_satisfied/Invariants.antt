-- What is left to be released gives all of it.
use Rattle.std.proofs.Common.{◌≡◌}
use Rattle.brd_objects.specs.Table.{object_at}
use Rattle.brd_kernel.specs.Services.{with_satisfied_released}
use Rattle.brd_kernel.proofs.WaitLemmas.{waiting_in}
use Rattle.brd_kernel.proofs.kernel.Kernel.release_satisfied.Given as goal

abbrev pub invariant-loop-task : goal.invariant-loop-task
invariant-loop-task l = with_satisfied_released l.self l.id ≡ with_satisfied_released l.fn.self l.id

abbrev pub decreases-loop-task : goal.decreases-loop-task
decreases-loop-task l = waiting_in (object_at l.self.flags l.id)

use Rattle.std.proofs.Common.{◌≡◌, drop}
use Rattle.brd_deeds.specs.Past.{with_rings}
use Rattle.brd_deeds.proofs.past.put_rings.Given as goal

abbrev pub invariant-loop-queue : goal.invariant-loop-queue
invariant-loop-queue l = with_rings l.rings (drop l.queue-index l.queues) ≡ with_rings l.fn.rings l.queues

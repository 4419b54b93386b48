-- What was passed is another task's.
use Rattle.std.proofs.Common.{◌≡◌, drop}
use Rattle.brd_queue.specs.Queue.{has}
use Rattle.brd_queue.proofs.queue.Queue.has.Given as goal

abbrev pub invariant-loop-entry : goal.invariant-loop-entry
invariant-loop-entry g l = has l.id l.entry-items ≡ has l.id (drop l.entry-index l.entry-items)

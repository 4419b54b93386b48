-- What was passed has been given the priority where it is the task's.
use Rattle.std.proofs.Common.{◌≡◌, ◌++◌, take, drop}
use Rattle.brd_queue.specs.Queue.{renumbered}
use Rattle.brd_queue.proofs.queue.renumber.Given as goal

abbrev pub invariant-loop-entry : goal.invariant-loop-entry
invariant-loop-entry g l = renumbered l.id l.priority l.fn.entries ≡ take l.entry-index l.entries ++ renumbered l.id l.priority (drop l.entry-index l.entries)

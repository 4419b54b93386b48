-- What was passed stays, and is other tasks'.
use Rattle.std.proofs.Common.{◌≡◌, ◌++◌, take, drop}
use Rattle.brd_queue.specs.Queue.{has, without}
use Rattle.brd_queue.proofs.queue.place_with.Given as goal

abbrev pub invariant-loop-i : goal.invariant-loop-i
invariant-loop-i g l = record {
  kept : without l.id l.entries ≡ take l.i l.entries ++ without l.id (drop l.i l.entries);
  passed : has l.id l.entries ≡ has l.id (drop l.i l.entries);
}

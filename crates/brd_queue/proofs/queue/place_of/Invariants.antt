-- The entry goes after what was passed.
use Rattle.std.proofs.Common.{◌≡◌, ◌++◌, take, drop}
use Rattle.brd_queue.specs.Queue.{behind_equals}
use Rattle.brd_queue.proofs.queue.place_of.Given as goal

abbrev pub invariant-loop-i : goal.invariant-loop-i
invariant-loop-i g l = behind_equals l.entry l.entries ≡ take l.i l.entries ++ behind_equals l.entry (drop l.i l.entries)

-- The waiters so far, and those among the tasks that are left, are all.
use Rattle.std.proofs.Common.{◌≡◌, ◌++◌, ◌-◌}
use Rattle.std.specs.List.{filter_map, range_with_len}
use Rattle.brd_happening.specs.Release.{waiter_in, waiters_of}
use Rattle.brd_happening.proofs.release.waiters_of.Given as goal

abbrev pub invariant-loop-id : goal.invariant-loop-id
invariant-loop-id l = l.waiters ++ filter_map (waiter_in l.board) (range_with_len l.id (256 - l.id)) ≡ waiters_of l.board

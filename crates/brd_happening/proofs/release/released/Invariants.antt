-- The releases so far, and those of the waiters that are left, are all.
use Rattle.std.proofs.Common.{◌≡◌, ◌++◌, drop}
use Rattle.std.specs.List.{filter_map}
use Rattle.brd_happening.specs.Release.{release_in}
use Rattle.brd_happening.proofs.release.released.Given as goal

abbrev pub invariant-loop-waiter : goal.invariant-loop-waiter
invariant-loop-waiter l = l.released ++ filter_map (release_in l.after) (drop l.waiter-index l.waiters) ≡ filter_map (release_in l.after) l.waiters

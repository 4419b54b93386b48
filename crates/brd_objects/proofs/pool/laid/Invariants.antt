-- The blocks that are made, and those that are left, are all.
use Rattle.std.proofs.Common.{◌≡◌, ◌-◌, ◌++◌}
use Rattle.brd_objects.specs.Pools.{laid}
use Rattle.brd_objects.proofs.pool.laid.Given as goal

abbrev pub invariant-loop : goal.invariant-loop
invariant-loop l = laid l.count l.distance l.start ≡ l.blocks.items ++ laid (l.count - l.counter) l.distance l.address

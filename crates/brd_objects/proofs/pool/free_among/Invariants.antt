-- Those that were passed and those that are left are all; no more than were passed are counted.
use Rattle.std.proofs.Common.{◌≡◌, ◌+◌, ◌≤◌, drop}
use Rattle.brd_objects.specs.Pools.{free_among}
use Rattle.brd_objects.proofs.pool.free_among.Given as goal

abbrev pub invariant-loop-block : goal.invariant-loop-block
invariant-loop-block l = record {
  all : l.free + free_among (drop l.block-index l.blocks) ≡ free_among l.blocks;
  few : l.free ≤ l.block-index;
}

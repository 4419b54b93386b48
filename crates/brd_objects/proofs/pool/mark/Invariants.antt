-- What was passed is marked where it is at the address.
use Rattle.std.proofs.Common.{◌≡◌, ◌++◌, map, take, drop}
use Rattle.brd_objects.specs.Pools.{marked}
use Rattle.brd_objects.proofs.pool.mark.Given as goal

abbrev pub invariant-loop-block : goal.invariant-loop-block
invariant-loop-block l = map (marked l.out l.address) l.fn.blocks ≡ take l.block-index l.blocks ++ map (marked l.out l.address) (drop l.block-index l.blocks)

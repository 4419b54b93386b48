-- What there is of the pools so far, with what the other pools come to, is what all of them come to.
use Rattle.std.proofs.Common.{◌≡◌, drop}
use Rattle.brd_mem.specs.Memory.{size_of}
use Rattle.brd_board.specs.Setup.{pools_from, pools_of}
use Rattle.brd_board.proofs.SetupLemmas.{behind}
use Rattle.brd_board.proofs.pools.pools_of.Given as goal

abbrev pub invariant-loop-pool : goal.invariant-loop-pool
invariant-loop-pool l =
    behind l.setups (pools_from (size_of l.ram) l.symbols l.free (drop l.pool-index l.pools)) ≡ pools_of (size_of l.ram) l.symbols l.tasks l.pools

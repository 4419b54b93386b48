use Rattle.std.proofs.Common.{◌≡◌}
use Rattle.brd_deeds.specs.Trails.{settles_below}
use Rattle.brd_deeds.proofs.log.Log.settle_all.Given as goal

abbrev pub invariant-loop-strand : goal.invariant-loop-strand
invariant-loop-strand l = l.self ≡ settles_below l.strand l.fn.self

use Rattle.std.proofs.Common.{length}
use Rattle.brd_asm.specs.Index.{byte_at}
use Rattle.brd_asm.proofs.RangeLemmas.{Remains}
use Rattle.brd_asm.proofs.stretches.segments_of.Given as goal

abbrev pub invariant-loop-range : goal.invariant-loop-range
invariant-loop-range l = Remains l.ranges (byte_at l.output l.fn.pieces) l.output l.stretches

abbrev pub decreases-loop-range : goal.decreases-loop-range
decreases-loop-range l = length l.ranges

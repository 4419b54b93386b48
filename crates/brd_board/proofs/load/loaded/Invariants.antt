-- What is left to load, over the memory so far, gives what all of it gives over a memory of zeros.
use Rattle.std.proofs.Common.{drop}
use Rattle.brd_board.proofs.LoadLemmas.{IsUnderWay}
use Rattle.brd_board.proofs.load.loaded.Given as goal

abbrev pub invariant-loop-segment : goal.invariant-loop-segment
invariant-loop-segment l = IsUnderWay l.fn.order l.size l.segments (drop l.segment-index l.segments) l.ram

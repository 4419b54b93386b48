use Rattle.std.proofs.Common.{map, drop}
use Rattle.brd_asm.specs.View as seen
use Rattle.brd_asm.proofs.OutputLemmas.{Progress}
use Rattle.brd_asm.proofs.output.output_of.Given as goal

abbrev pub invariant-loop-piece : goal.invariant-loop-piece
invariant-loop-piece l = Progress l.order l.names (map seen.piece l.pieces) (map seen.piece (drop l.piece-index l.pieces)) l.output.items

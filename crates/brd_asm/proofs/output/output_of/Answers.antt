use Rattle.std.proofs.Common.{map, drop, ◌+◌}
use Rattle.brd_asm.specs.View as seen
use Rattle.brd_asm.proofs.OutputLemmas.{progress_starts, progress_more, next_item}
use Rattle.brd_asm.proofs.output.output_of.Goals as goal

pub loop-piece-init : goal.loop-piece-init
loop-piece-init c = rw c.new-output.ensures.items (progress_starts c.args.order c.args.names.now (map seen.piece c.args.pieces.now))

pub loop-piece-preserved : goal.loop-piece-preserved
loop-piece-preserved c =
    progress_more c.args.order c.args.names.now (map seen.piece c.args.pieces.now) (map seen.piece (drop (c.loop-piece.piece-index + 1) c.args.pieces.now)) (seen.piece c.piece-item.result) c.loop-piece.output.items c.put.new.output.items
    (rw (next_item c.args.pieces.now c.loop-piece.piece-index c.piece-item.result c.piece-item.is c.loop-piece-test.true) at c.loop-piece.invariant) c.in_ok-put.ensures

use Rattle.std.proofs.Common.{refl, sym, arith}
use Rattle.brd_journal.proofs.StillLemmas.{after-still, no-more, repeated}
use Rattle.brd_journal.proofs.playback.repeat.Goals as goal

pub returns-then-over : goal.returns-then-over
returns-then-over c = λ rests. sym (after-still c.args.board.now c.args.event c.args.count (rests c.if-over.true))

pub returns-then-count-gt0 : goal.returns-then-count-gt0
returns-then-count-gt0 c = λ rests. repeated c.args.board.now c.repeat.new.self c.args.event c.args.count c.repeat.ensures

pub returns-else-count-gt0 : goal.returns-else-count-gt0
returns-else-count-gt0 c = λ rests. no-more c.args.board.now c.args.board.now c.args.event c.args.count refl (omega (arith, c.if-count-gt0.false))

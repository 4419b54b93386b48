use Rattle.std.proofs.Common.{ap, ◌∙◌, arith}
use Rattle.std.proofs.lemmas.List.{take_all}
use Rattle.brd_board.specs.Board.{after}
use Rattle.brd_running.proofs.progress.replay.Goals as goal

pub loop-playback-preserved : goal.loop-playback-preserved
loop-playback-preserved g c = c.play_to.ensures.played c.args.board c.loop-playback.invariant

pub returns : goal.returns
returns g c =
    c.loop-playback.invariant.board
    ∙ ap (after c.args.board) (take_all c.loop-playback.playback.at c.args.journal.now.events (omega (arith, c.loop-playback-test.false, c.len-len.ensures.len)))

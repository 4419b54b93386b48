use Rattle.std.proofs.Common.{ap}
use Rattle.brd_board.specs.Board.{BoardState}
use Rattle.brd_summary.specs.Summary.{end_text}
use Rattle.brd_summary.proofs.summary.put_end.Goals as goal

pub returns-clause-end : goal.returns-clause-end
returns-clause-end c = λ boot events is dated.
    let at = c.args.tracer.now.playback.at in
    let off = c.args.tracer.now.notes.off in
    record {
      text = _;
      is_it = record {
        off = off;
        is_off = dated.off;
        line = ap (λ (board : BoardState). end_text at board.kernel.time.count off) is.board;
      };
      behind = c.in_ok-put_end_line.ensures.line;
    }

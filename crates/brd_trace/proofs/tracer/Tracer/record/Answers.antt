use Rattle.std.proofs.Common.{ℕ, sym, ap, subst}
use Rattle.std.specs.Option.{option_map}
use Rattle.brd_journal.specs.Playing.{board_at}
use Rattle.brd_recording.specs.Lanes.{lanes_of}
use Rattle.brd_trace.specs.Noted.{Knows}
use Rattle.brd_trace.proofs.RecordingLemmas.{recorded-begins, same-knows, begins-begun}
use Rattle.brd_trace.proofs.tracer.Tracer.record.Goals as goal

pub returns-clause-begun : goal.returns-clause-begun
returns-clause-begun c = begins-begun c.args.self.now.playback.at c.record.new.self c.in_ok-record.ensures.begins

pub returns-clause-noted : goal.returns-clause-noted
returns-clause-noted c = λ boot events is noted.
    let knows : Knows (board_at boot events c.args.self.now.playback.at) c.record.new.self =
    same-knows (board_at boot events c.args.self.now.playback.at) c.args.self.now.notes c.record.new.self c.record.ensures.tasks
    c.record.ensures.standings c.record.ensures.off noted.known in
    record {
      known = knows;
      recorded = recorded-begins boot events c.args.self.now.playback.at c.record.new.self (option_map lanes_of c.record.new.self.recording)
          knows c.in_ok-record.ensures.begins;
    }

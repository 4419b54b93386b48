use Rattle.std.proofs.Common.{sym, ap, subst}
use Rattle.std.specs.Option.{option_map}
use Rattle.brd_recording.specs.Lanes.{lanes_of}
use Rattle.brd_trace.specs.Noted.{Knows}
use Rattle.brd_recording.specs.Recording.{IsRecorded}
use Rattle.brd_trace.proofs.tracer.Tracer.skip_far.Goals as goal

pub returns-clause-noted : goal.returns-clause-noted
returns-clause-noted c = λ boot is.
    let events = c.args.journal.now.events in
    record {
      known = subst (λ b. Knows b c.see_board.new.self) (c.play_to.ensures.played boot is).board c.in_ok-see_board.ensures.knows;
      recorded = subst (λ them. IsRecorded boot events c.play_to.new.self.at (option_map lanes_of them)) (sym c.see_board.ensures.none) tt;
    }

use Rattle.std.proofs.Common.{refl, sym, ap, subst}
use Rattle.std.specs.Option.{option_map}
use Rattle.brd_recording.specs.Lanes.{lanes_of}
use Rattle.brd_recording.specs.Recording.{IsRecorded}
use Rattle.brd_trace.proofs.tracer.Tracer.new.Goals as goal

pub returns-clause-noted : goal.returns-clause-noted
returns-clause-noted c = λ events. record {
  known = c.in_ok-notes.ensures.knows;
  recorded = subst (λ them. IsRecorded c.args.board events 0 (option_map lanes_of them)) (sym c.in_ok-notes.ensures.none) tt;
}

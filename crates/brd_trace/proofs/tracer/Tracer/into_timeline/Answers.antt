use Rattle.std.proofs.Common.{◌∙◌}
use Rattle.std.specs.Option.{option_map}
use Rattle.brd_recording.specs.Lanes.{lanes_of}
use Rattle.brd_trace.proofs.RecordingLemmas.{timeline-is, begun-from}
use Rattle.brd_trace.proofs.tracer.Tracer.into_timeline.Goals as goal

pub returns : goal.returns
returns c = λ boot events from is noted begun.
    timeline-is boot events from c.args.self.playback.at (option_map lanes_of c.args.self.notes.recording) _
    (begun-from c.args.self.notes from begun) c.in_ok-made.ensures noted.recorded

use Rattle.std.proofs.Common.{ap}
use Rattle.brd_recording.specs.Lanes.{lanes_of}
use Rattle.brd_recording.proofs.LanesLemmas.{closes-more}
use Rattle.brd_recording.proofs.recording.Recording.close_all.Goals as goal

pub loop-lane-preserved : goal.loop-lane-preserved
loop-lane-preserved c =
    closes-more c.args.to (lanes_of c.args.self.now) (lanes_of c.loop-lane.self) (lanes_of c.close.new.self) c.loop-lane.lane
    c.close.ensures.same (ap (λ them. them.items) c.close.ensures.current) c.in_ok-close.ensures.this c.close.ensures.slices
    c.loop-lane.invariant

use Rattle.std.proofs.Common.{ap, ◌∙◌, arith}
use Rattle.std.specs.Prelude.{slice_index_or}
use Rattle.brd_recording.specs.Lanes.{lanes_of}
use Rattle.brd_recording.specs.Slices.{off_doing}
use Rattle.brd_recording.specs.Recording.{doings_in}
use Rattle.brd_recording.proofs.LanesLemmas.{sees-first, sees-more, sees-all}
use Rattle.brd_recording.proofs.recording.Recording.see.Goals as goal

pub loop-lane-init : goal.loop-lane-init
loop-lane-init c =
    sees-first c.args.at
    (doings_in c.args.known.is_off c.args.known.standings.now.of c.args.known.tasks.now c.args.self.now.processors.items)
    (lanes_of c.args.self.now)

pub loop-lane-preserved : goal.loop-lane-preserved
loop-lane-preserved c =
    let doings = doings_in c.args.known.is_off c.args.known.standings.now.of c.args.known.tasks.now in
    sees-more c.args.at (doings c.args.self.now.processors.items) (lanes_of c.args.self.now) (lanes_of c.loop-lane.self)
    (lanes_of c.turn.new.self) c.loop-lane.lane c.of_lane-doing.result
    (c.of_lane-doing.ensures
    ∙ ap (λ cpus. slice_index_or (doings cpus) c.loop-lane.lane off_doing)
    (c.as_slice.ensures.value ∙ c.loop-lane.invariant.same.cpus))
    c.turn.ensures.same c.in_ok-turn.ensures.this c.turn.ensures.others c.turn.ensures.slices c.loop-lane.invariant

pub returns-clause-sees : goal.returns-clause-sees
returns-clause-sees c =
    sees-all c.args.at
    (doings_in c.args.known.is_off c.args.known.standings.now.of c.args.known.tasks.now c.args.self.now.processors.items)
    (lanes_of c.args.self.now) (lanes_of c.loop-lane.self) c.loop-lane.lane
    (omega (arith, c.loop-lane-test.false, c.len-lane-end.ensures)) c.loop-lane.invariant

use Rattle.std.proofs.Common.{ap, ◌∙◌, map, arith}
use Rattle.brd_stacks.specs.Tracks.{taken}
use Rattle.brd_stacks.proofs.TrackLemmas.{followed-more, soonest-more, written-back}
use Rattle.brd_stacks.proofs.track.follow.Goals as goal

pub returns-clause-followed : goal.returns-clause-followed
returns-clause-followed c = λ stacks points followed. followed-more stacks points c.args.point _ _
    (written-back (taken c.args.point) c.args.tracks.now.items c.take_all.new.tracks c.args.tracks.now.len (omega arith)
    (c.take_all.ensures ∙ ap (map (taken c.args.point)) c.as_mut_slice.ensures.value))
    followed

pub returns-clause-soonest : goal.returns-clause-soonest
returns-clause-soonest c = λ stacks points followed calm. soonest-more stacks points c.args.point c.args.tracks.now.items followed calm

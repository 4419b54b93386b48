use Rattle.std.proofs.Common.{ap, ◌∙◌, map, arith}
use Rattle.std.proofs.lemmas.List.{take_all}
use Rattle.brd_stacks.specs.Tracks.{started}
use Rattle.brd_stacks.proofs.TrackLemmas.{followed-none}
use Rattle.brd_stacks.proofs.track.tracks_of.Goals as goal

pub returns : goal.returns
returns c = followed-none c.args.stacks.now c.loop-stack.tracks.items
    (c.loop-stack.invariant ∙ ap (map started) (take_all c.loop-stack.stack-index c.args.stacks.now (omega (arith, c.loop-stack-test.false))))

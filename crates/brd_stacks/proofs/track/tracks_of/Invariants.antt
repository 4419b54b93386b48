use Rattle.std.proofs.Common.{◌≡◌, take, map}
use Rattle.brd_stacks.specs.Tracks.{started}
use Rattle.brd_stacks.proofs.track.tracks_of.Given as goal

abbrev pub invariant-loop-stack : goal.invariant-loop-stack
invariant-loop-stack l = l.tracks.items ≡ map started (take l.stack-index l.stacks)

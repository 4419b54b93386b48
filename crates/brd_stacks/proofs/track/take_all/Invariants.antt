use Rattle.std.proofs.Common.{◌≡◌, ◌++◌, take, drop, map}
use Rattle.brd_stacks.specs.Tracks.{taken}
use Rattle.brd_stacks.proofs.track.take_all.Given as goal

abbrev pub invariant-loop-track : goal.invariant-loop-track
invariant-loop-track l = map (taken l.point) l.fn.tracks ≡ take l.track-index l.tracks ++ map (taken l.point) (drop l.track-index l.tracks)

use Rattle.std.proofs.Common.{◌≡◌, drop}
use Rattle.brd_stacks.specs.Depths.{some_overflow}
use Rattle.brd_stacks.proofs.track.has_overflow.Given as goal

abbrev pub invariant-loop-track : goal.invariant-loop-track
invariant-loop-track l = some_overflow (drop l.track-index l.tracks) ≡ some_overflow l.tracks

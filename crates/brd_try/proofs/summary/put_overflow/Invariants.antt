-- It hasn't gone past the end, and no store below a stack is told.
use Rattle.std.proofs.Common.{◌≡◌, ◌≤◌, ◌-◌}
use Rattle.std.specs.Prelude.{false}
use Rattle.brd_stacks.specs.Depths.{some_overflow}
use Rattle.brd_try.proofs.summary.put_overflow.Given as goal

abbrev pub invariant-loop-following : goal.invariant-loop-following
invariant-loop-following l = record {
  on : l.following.playback.at ≤ l.len;
  calm : some_overflow l.following.tracks.items ≡ false;
}

abbrev pub decreases-loop-following : goal.decreases-loop-following
decreases-loop-following l = l.len - l.following.playback.at

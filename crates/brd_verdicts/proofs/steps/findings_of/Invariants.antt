-- What is found up to here is known.
use Rattle.std.proofs.Common.{◌≤◌, ◌-◌}
use Rattle.brd_verdicts.specs.Steps.{AreFollowed}
use Rattle.brd_verdicts.proofs.steps.findings_of.Given as goal

abbrev pub invariant-loop-following : goal.invariant-loop-following
invariant-loop-following l = record {
  on : l.following.playback.at ≤ l.n;
  followed : AreFollowed l.fn.boot l.journal.events l.following;
}

abbrev pub decreases-loop-following : goal.decreases-loop-following
decreases-loop-following l = l.n - l.following.playback.at

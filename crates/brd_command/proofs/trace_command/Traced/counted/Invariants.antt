-- It hasn't gone past the end.
use Rattle.std.proofs.Common.{◌≤◌, ◌-◌}
use Rattle.brd_command.proofs.trace_command.Traced.counted.Given as goal

abbrev pub invariant-loop-counting : goal.invariant-loop-counting
invariant-loop-counting g l = l.counting.playback.at ≤ l.self.part.to

abbrev pub decreases-loop-counting : goal.decreases-loop-counting
decreases-loop-counting g l = l.self.part.to - l.counting.playback.at

-- It hasn't gone past the end.
use Rattle.std.proofs.Common.{◌≤◌, ◌-◌}
use Rattle.brd_command.proofs.gdb_history.put_events.Given as goal

abbrev pub invariant-loop-tracer : goal.invariant-loop-tracer
invariant-loop-tracer g l = l.tracer.playback.at ≤ l.traced.part.to

abbrev pub decreases-loop-tracer : goal.decreases-loop-tracer
decreases-loop-tracer g l = l.traced.part.to - l.tracer.playback.at

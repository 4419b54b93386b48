-- The debugger has gone as far as it has looked, and there is no stop on its way.
use Rattle.std.proofs.Common.{◌≡◌, ◌+◌, ◌-◌, ◌<◌, ◌≤◌, length}
use Rattle.brd_debug.specs.Stops.{NoneFrom}
use Rattle.brd_stub.specs.Moving.{moved_to, IsStopOf}
use Rattle.brd_stub.proofs.seeking.search_on.Given as goal

abbrev pub invariant-loop-at : goal.invariant-loop-at
invariant-loop-at g l = record {
  there : l.debugger ≡ moved_to l.fn.debugger l.at;
  on : l.fn.debugger.position < l.at;
  within : l.at ≤ length l.fn.debugger.events;
  none : NoneFrom (IsStopOf l.fn.debugger) (l.fn.debugger.position + 1) l.at;
}

abbrev pub decreases-loop-at : goal.decreases-loop-at
decreases-loop-at g l = l.len - l.at

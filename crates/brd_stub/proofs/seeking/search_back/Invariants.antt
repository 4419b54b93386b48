-- The debugger has gone back as far as it has looked, and there is no stop on its way.
use Rattle.std.proofs.Common.{◌≡◌, ◌≤◌}
use Rattle.brd_debug.specs.Stops.{NoneFrom}
use Rattle.brd_stub.specs.Moving.{moved_to, IsStopOf}
use Rattle.brd_stub.proofs.seeking.search_back.Given as goal

abbrev pub invariant-loop-at : goal.invariant-loop-at
invariant-loop-at g l = record {
  there : l.debugger ≡ moved_to l.fn.debugger l.at;
  below : l.at ≤ l.fn.debugger.position;
  none : NoneFrom (IsStopOf l.fn.debugger) l.at l.fn.debugger.position;
}

abbrev pub decreases-loop-at : goal.decreases-loop-at
decreases-loop-at g l = l.at

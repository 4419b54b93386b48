-- What is there, with the events that are left, is what there was, and all of them.
use Rattle.std.proofs.Common.{◌≡◌, ◌++◌, drop, map}
use Rattle.brd_timeline.specs.Events.{behind, hold_event}
use Rattle.brd_timeline.proofs.trace_events.put_holds.Given as goal

abbrev pub invariant-loop-hold : goal.invariant-loop-hold
invariant-loop-hold l =
    l.to.items ++ behind (map hold_event (drop l.hold-index l.timeline.holds.items)) ≡ l.fn.to.items ++ behind (map hold_event l.timeline.holds.items)

-- What is there, with the events that are left, is what there was, and all of them.
use Rattle.std.proofs.Common.{◌≡◌, ◌++◌, drop}
use Rattle.std.specs.List.{flat_map}
use Rattle.brd_timeline.specs.Events.{behind, mark_events}
use Rattle.brd_timeline.proofs.trace_events.put_marks.Given as goal

abbrev pub invariant-loop-mark : goal.invariant-loop-mark
invariant-loop-mark l =
    l.to.items ++ behind (flat_map (mark_events l.timeline.lanes.items) (drop l.mark-index l.timeline.marks.items))
    ≡ l.fn.to.items ++ behind (flat_map (mark_events l.timeline.lanes.items) l.timeline.marks.items)

-- What is there, with the events that are left, is what there was, and all of them.
use Rattle.std.proofs.Common.{◌≡◌, ◌++◌, drop}
use Rattle.std.specs.List.{flat_map}
use Rattle.brd_timeline.specs.Events.{behind, slice_events}
use Rattle.brd_timeline.proofs.trace_events.put_slices.Given as goal

abbrev pub invariant-loop-slice : goal.invariant-loop-slice
invariant-loop-slice l =
    l.to.items ++ behind (flat_map (slice_events l.timeline.lanes.items) (drop l.slice-index l.timeline.slices.items))
    ≡ l.fn.to.items ++ behind (flat_map (slice_events l.timeline.lanes.items) l.timeline.slices.items)

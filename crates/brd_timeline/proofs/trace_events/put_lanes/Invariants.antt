-- What is there, with the events that are left, is what there was, and all of them.
use Rattle.std.proofs.Common.{◌≡◌, ◌++◌, drop}
use Rattle.std.specs.List.{flat_map, enumerate_from}
use Rattle.brd_timeline.specs.Events.{behind, lane_events}
use Rattle.brd_timeline.proofs.trace_events.put_lanes.Given as goal

abbrev pub invariant-loop-place : goal.invariant-loop-place
invariant-loop-place l =
    l.to.items ++ behind (flat_map lane_events (enumerate_from l.place (drop l.place l.timeline.lanes.items)))
    ≡ l.fn.to.items ++ behind (flat_map lane_events (enumerate_from 0 l.timeline.lanes.items))

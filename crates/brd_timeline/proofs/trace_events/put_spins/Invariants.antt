-- What is there, with the events that are left, is what there was, and all of them.
use Rattle.std.proofs.Common.{◌≡◌, ◌++◌, drop}
use Rattle.std.specs.List.{flat_map}
use Rattle.brd_timeline.specs.Events.{behind, spin_events}
use Rattle.brd_timeline.proofs.trace_events.put_spins.Given as goal

abbrev pub invariant-loop-spinning : goal.invariant-loop-spinning
invariant-loop-spinning l =
    l.to.items ++ behind (flat_map (spin_events l.timeline.lanes.items) (drop l.spinning-index l.timeline.spins.items))
    ≡ l.fn.to.items ++ behind (flat_map (spin_events l.timeline.lanes.items) l.timeline.spins.items)

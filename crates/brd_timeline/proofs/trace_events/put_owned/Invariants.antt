-- What is there, with the events that are left, is what there was, and all of them.
use Rattle.std.proofs.Common.{◌≡◌, ◌++◌, drop, map}
use Rattle.brd_timeline.specs.Events.{behind, owning_event}
use Rattle.brd_timeline.proofs.trace_events.put_owned.Given as goal

abbrev pub invariant-loop-owning : goal.invariant-loop-owning
invariant-loop-owning l =
    l.to.items ++ behind (map owning_event (drop l.owning-index l.timeline.owned.items)) ≡ l.fn.to.items ++ behind (map owning_event l.timeline.owned.items)

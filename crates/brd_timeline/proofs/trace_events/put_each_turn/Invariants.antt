-- What is there, with the events that are left, is what there was, and all of them.
use Rattle.std.proofs.Common.{◌≡◌, ◌++◌, drop, map}
use Rattle.brd_timeline.specs.Events.{behind, turn_event}
use Rattle.brd_timeline.proofs.trace_events.put_each_turn.Given as goal

abbrev pub invariant-loop-turn : goal.invariant-loop-turn
invariant-loop-turn l =
    l.to.items ++ behind (map turn_event (drop l.turn-index l.timeline.turns.items)) ≡ l.fn.to.items ++ behind (map turn_event l.timeline.turns.items)

-- What is there, with the events that are left, is what there was, and all of them.
use Rattle.std.proofs.Common.{◌≡◌, ◌++◌, drop, map}
use Rattle.std.specs.List.{enumerate_from}
use Rattle.brd_timeline.specs.Events.{behind, mutex_event}
use Rattle.brd_timeline.proofs.trace_events.put_mutex_threads.Given as goal

abbrev pub invariant-loop-place : goal.invariant-loop-place
invariant-loop-place l =
    l.to.items ++ behind (map mutex_event (enumerate_from l.place (drop l.place l.timeline.mutexes.items)))
    ≡ l.fn.to.items ++ behind (map mutex_event (enumerate_from 0 l.timeline.mutexes.items))

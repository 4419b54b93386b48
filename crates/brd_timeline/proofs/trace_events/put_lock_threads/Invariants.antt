-- What is there, with the events that are left, is what there was, and all of them.
use Rattle.std.proofs.Common.{◌≡◌, ◌++◌, drop, map}
use Rattle.std.specs.List.{enumerate_from}
use Rattle.brd_timeline.specs.Events.{behind, lock_event}
use Rattle.brd_timeline.proofs.trace_events.put_lock_threads.Given as goal

abbrev pub invariant-loop-place : goal.invariant-loop-place
invariant-loop-place l =
    l.to.items ++ behind (map lock_event (enumerate_from l.place (drop l.place l.timeline.locks.items)))
    ≡ l.fn.to.items ++ behind (map lock_event (enumerate_from 0 l.timeline.locks.items))

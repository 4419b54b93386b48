use Rattle.std.proofs.Common.{ℕ, ap, ◌++◌, codes}
use Rattle.std.specs.Fmt.{decimal}
use Rattle.brd_timeline.specs.Events as events
use Rattle.brd_timeline.proofs.EventLemmas.{thread_named}
use Rattle.brd_timeline.proofs.trace_events.put_lock_thread.Goals as goal

pub returns : goal.returns
returns c =
    thread_named c.put-2.result c.args.to.now.items c.put_head.new.to.items c.put.new.to.items c.put_numbered.new.to.items c.put-2.new.to.items
    c.lock_track.result (events.lock_track c.args.place) (codes "lock " ++ decimal c.from.result) (codes "lock " ++ decimal c.args.lock)
    c.lock_track.ensures (ap (λ (n : ℕ). codes "lock " ++ decimal n) c.from.ensures)
    c.in_ok-put_head.ensures c.in_ok-put.ensures c.in_ok-put_numbered.ensures c.put-2.ensures

use Rattle.std.proofs.Common.{ℕ, ap, ◌++◌, codes}
use Rattle.std.specs.Fmt.{decimal}
use Rattle.brd_timeline.specs.Events as events
use Rattle.brd_timeline.proofs.EventLemmas.{thread_named}
use Rattle.brd_timeline.proofs.trace_events.put_mutex_thread.Goals as goal

pub returns : goal.returns
returns c =
    thread_named c.put-2.result c.args.to.now.items c.put_head.new.to.items c.put.new.to.items c.put_numbered.new.to.items c.put-2.new.to.items
    c.mutex_track.result (events.mutex_track c.args.place) (codes "mutex " ++ decimal c.from.result) (codes "mutex " ++ decimal c.args.mutex)
    c.mutex_track.ensures (ap (λ (n : ℕ). codes "mutex " ++ decimal n) c.from.ensures)
    c.in_ok-put_head.ensures c.in_ok-put.ensures c.in_ok-put_numbered.ensures c.put-2.ensures

use Rattle.std.proofs.Common.{ℕ, ap, ◌++◌, codes, refl}
use Rattle.std.specs.Fmt.{decimal}
use Rattle.brd_timeline.specs.Events as events
use Rattle.brd_timeline.proofs.EventLemmas.{completes}
use Rattle.brd_timeline.proofs.trace_events.put_hold.Goals as goal

pub returns : goal.returns
returns c =
    let it = c.args.hold in
    let name = codes "held by cpu " ++ decimal it.cpu in
    completes c.put_numbered.result c.args.to.now.items c.put_stretch.new.to.items c.put_numbered.new.to.items
    c.lock_track.result (events.lock_track it.lock) it.from it.to (codes "held") (codes "held") (codes "held by cpu " ++ decimal c.from.result) name c.lock_track.ensures refl (ap (λ (n : ℕ). codes "held by cpu " ++ decimal n) c.from.ensures)
    c.in_ok-put_stretch.ensures c.put_numbered.ensures

use Rattle.std.proofs.Common.{ℕ, ap, ◌++◌, codes, refl}
use Rattle.std.specs.Fmt.{decimal}
use Rattle.brd_timeline.specs.Events as events
use Rattle.brd_timeline.proofs.EventLemmas.{completes}
use Rattle.brd_timeline.proofs.trace_events.put_owning.Goals as goal

pub returns : goal.returns
returns c =
    let it = c.args.owning in
    let name = codes "held by task " ++ decimal it.task in
    completes c.put_numbered.result c.args.to.now.items c.put_stretch.new.to.items c.put_numbered.new.to.items
    c.mutex_track.result (events.mutex_track it.mutex) it.from it.to (codes "held") (codes "held") (codes "held by task " ++ decimal c.from.result) name c.mutex_track.ensures refl (ap (λ (n : ℕ). codes "held by task " ++ decimal n) c.from.ensures)
    c.in_ok-put_stretch.ensures c.put_numbered.ensures

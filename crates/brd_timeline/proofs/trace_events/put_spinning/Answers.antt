use Rattle.std.proofs.Common.{ℕ, ap, ◌++◌, codes, refl, sym, slice_get}
use Rattle.std.specs.Fmt.{decimal}
use Rattle.brd_timeline.specs.Events as events
use Rattle.brd_timeline.proofs.EventLemmas.{completes, in_its_lane}
use Rattle.brd_timeline.proofs.trace_events.put_spinning.Goals as goal

pub returns : goal.returns
returns c =
    let it = c.args.it in
    let lane = c.in-Some.lane.now in
    let old = c.args.to.now.items in
    let new = c.put_numbered.new.to.items in
    let name = codes "spins for lock " ++ decimal it.lock in
    in_its_lane c.put_numbered.result old new
    (λ lane. events.Complete (events.track_of lane it.lane) it.from it.to (codes "spins") name)
    (slice_get c.args.timeline.now.lanes.items it.lane) lane (sym c.in-Some.ensures)
    (completes c.put_numbered.result old c.put_stretch.new.to.items new c.track_of.result (events.track_of lane it.lane) it.from it.to
    (codes "spins") (codes "spins") (codes "spins for lock " ++ decimal c.from.result) name c.track_of.ensures refl (ap (λ (n : ℕ). codes "spins for lock " ++ decimal n) c.from.ensures) c.in_ok-put_stretch.ensures c.put_numbered.ensures)

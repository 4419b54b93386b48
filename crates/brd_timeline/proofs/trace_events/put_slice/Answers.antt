use Rattle.std.proofs.Common.{◌≡◌, sym, Some, slice_get}
use Rattle.brd_timeline.specs.Names.{kind_name, slice_name}
use Rattle.brd_timeline.specs.Events as events
use Rattle.brd_timeline.proofs.EventLemmas.{completes, in_its_lane}
use Rattle.brd_timeline.proofs.trace_events.put_slice.Goals as goal

pub returns : goal.returns
returns c =
    let slice = c.args.slice.now in
    let lane = c.in-Some.lane.now in
    let old = c.args.to.now.items in
    let new = c.put_name.new.to.items in
    let there : slice_get c.args.timeline.now.lanes.items slice.lane ≡ Some lane = sym c.in-Some.ensures in
    let called : c.label_or.result.now ≡ slice_name slice = cc in
    in_its_lane c.put_name.result old new
    (λ lane. events.Complete (events.track_of lane slice.lane) slice.from slice.to (kind_name slice.kind) (slice_name slice))
    (slice_get c.args.timeline.now.lanes.items slice.lane) lane there
    (completes c.put_name.result old c.put_stretch.new.to.items new c.track_of.result (events.track_of lane slice.lane) slice.from slice.to
    c.kind_name-name.result.now (kind_name slice.kind) c.label_or.result.now (slice_name slice) c.track_of.ensures c.kind_name-name.ensures called
    c.in_ok-put_stretch.ensures c.put_name.ensures)

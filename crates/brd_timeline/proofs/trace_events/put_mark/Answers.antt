use Rattle.std.proofs.Common.{◌≡◌, sym, Some, slice_get}
use Rattle.brd_timeline.specs.Names.{mark_name, mark_label}
use Rattle.brd_timeline.specs.Events as events
use Rattle.brd_timeline.proofs.EventLemmas.{instants, in_its_lane}
use Rattle.brd_timeline.proofs.trace_events.put_mark.Goals as goal

pub returns : goal.returns
returns c =
    let mark = c.args.mark.now in
    let lane = c.in-Some.lane.now in
    let old = c.args.to.now.items in
    let new = c.put_name.new.to.items in
    let there : slice_get c.args.timeline.now.lanes.items mark.lane ≡ Some lane = sym c.in-Some.ensures in
    let called : c.label_or.result.now ≡ mark_label mark = cc in
    in_its_lane c.put_name.result old new
    (λ lane. events.Instant (events.track_of lane mark.lane) mark.at (mark_name mark.kind) (mark_label mark))
    (slice_get c.args.timeline.now.lanes.items mark.lane) lane there
    (instants c.put_name.result old c.put_instant.new.to.items new c.track_of.result (events.track_of lane mark.lane) mark.at
    c.mark_name-name.result.now (mark_name mark.kind) c.label_or.result.now (mark_label mark) c.track_of.ensures c.mark_name-name.ensures called
    c.in_ok-put_instant.ensures c.put_name.ensures)

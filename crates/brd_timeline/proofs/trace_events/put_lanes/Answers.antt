use Rattle.std.proofs.Common.{◌≡◌, ◌++◌, ◌∷◌, ◌∙◌, ◌+◌, List, ap, sym, drop, arith}
use Rattle.std.specs.List.{flat_map, enumerate_from}
use Rattle.std.proofs.lemmas.Grind.{common_steps}
use Rattle.brd_timeline.specs.declared.timeline.Lane.{Lane}
use Rattle.brd_timeline.specs.Events.{behind, lane_events}
use Rattle.brd_timeline.proofs.EventLemmas.{more}
use Rattle.brd_timeline.proofs.trace_events.put_lanes.Goals as goal

pub loop-place-preserved : goal.loop-place-preserved
loop-place-preserved c =
    let lanes = c.args.timeline.now.lanes.items in
    let place = c.loop-place.place in
    let lane = c.lane-item.result in
    let rest = drop (place + 1) lanes in
    let next : drop place lanes ≡ lane ∷ rest = grind (arith, common_steps) in
    more lane_events c.loop-place.to.items c.put_lane.new.to.items (place, lane) (enumerate_from (place + 1) rest) c.in_ok-put_lane.ensures
    ∙ (ap (λ (ls : List Lane). c.loop-place.to.items ++ behind (flat_map lane_events (enumerate_from place ls))) (sym next)
    ∙ c.loop-place.invariant)

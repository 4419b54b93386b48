use Rattle.std.proofs.Common.{◌≡◌, ◌++◌, ◌∙◌, ap, append_assoc, ℕ, List, [], ◌∷◌, codes, map}
use Rattle.std.specs.List.{flat_map, enumerate_from}
use Rattle.brd_timeline.specs.Events as events
use Rattle.brd_timeline.specs.Events.{json_text}
use Rattle.brd_timeline.proofs.EventLemmas.{grown, on_ok, ends}
use Rattle.brd_timeline.proofs.trace_events.json.Goals as goal

pub returns-clause-text : goal.returns-clause-text
unfolding json_text
returns-clause-text c =
    let t = c.args.timeline.now in
    let old = c.args.to.now.items in
    let head = codes "{\"displayTimeUnit\":\"ms\",\"traceEvents\":[\n" in
    let first = events.ProcessName 1 (codes "processors") in
    let l0 = events.ProcessName 2 (codes "tasks") ∷ events.ProcessName events.ticks (codes "ticks")
    ∷ events.ThreadName (events.only_track events.ticks) (codes "ticks") ∷ [] in
    let lanes = flat_map events.lane_events (enumerate_from 0 t.lanes.items) in
    let slices = flat_map (events.slice_events t.lanes.items) t.slices.items in
    let marks = flat_map (events.mark_events t.lanes.items) t.marks.items in
    let ticks = map (events.tick_event t.first_tick) (enumerate_from 0 t.ticks.items) in
    let locks = events.lock_events t in
    let mutexes = events.mutex_events t in
    let turns = events.turn_events t in
    let e0 : c.put_processes.new.to.items ≡ old ++ (head ++ events.joined (first ∷ l0)) =
    c.in_ok-put_processes.ensures ∙ (ap (λ (them : List ℕ). them ++ events.joined (first ∷ l0)) c.in_ok-put.ensures
    ∙ append_assoc old head (events.joined (first ∷ l0))) in
    let e1 = grown old c.put_processes.new.to.items c.put_lanes.new.to.items head first l0 lanes e0 c.in_ok-put_lanes.ensures in
    let e2 = grown old c.put_lanes.new.to.items c.put_slices.new.to.items head first (l0 ++ lanes) slices e1 c.in_ok-put_slices.ensures in
    let e3 = grown old c.put_slices.new.to.items c.put_marks.new.to.items head first ((l0 ++ lanes) ++ slices) marks e2 c.in_ok-put_marks.ensures in
    let e4 = grown old c.put_marks.new.to.items c.put_ticks.new.to.items head first (((l0 ++ lanes) ++ slices) ++ marks) ticks e3
    c.in_ok-put_ticks.ensures in
    let e5 = grown old c.put_ticks.new.to.items c.put_locks.new.to.items head first ((((l0 ++ lanes) ++ slices) ++ marks) ++ ticks) locks e4
    c.in_ok-put_locks.ensures in
    let e6 = grown old c.put_locks.new.to.items c.put_mutexes.new.to.items head first (((((l0 ++ lanes) ++ slices) ++ marks) ++ ticks) ++ locks)
    mutexes e5 c.in_ok-put_mutexes.ensures in
    let e7 = grown old c.put_mutexes.new.to.items c.put_turns.new.to.items head first
    ((((((l0 ++ lanes) ++ slices) ++ marks) ++ ticks) ++ locks) ++ mutexes) turns e6 c.in_ok-put_turns.ensures in
    let all = first ∷ (((((((l0 ++ lanes) ++ slices) ++ marks) ++ ticks) ++ locks) ++ mutexes) ++ turns) in
    on_ok c.put-2.result (λ e. e ∙ (ap (λ (them : List ℕ). them ++ codes "\n]}\n") e7
    ∙ append_assoc old (head ++ events.joined all) (codes "\n]}\n"))) c.put-2.ensures

pub returns-clause-ends : goal.returns-clause-ends
returns-clause-ends c = ends c.put-2.result c.put_turns.new.to.items c.put-2.new.to.items (codes "\n]}\n") c.put-2.ensures

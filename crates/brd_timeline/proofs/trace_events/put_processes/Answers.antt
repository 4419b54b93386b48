use Rattle.std.proofs.Common.{◌++◌, ◌∙◌, ap, [], ◌∷◌, codes}
use Rattle.brd_timeline.specs.declared.trace_events.Track.{Track}
use Rattle.brd_timeline.specs.Events as events
use Rattle.brd_timeline.proofs.EventLemmas.{four_steps, joined-three, on_ok}
use Rattle.brd_timeline.proofs.trace_events.put_processes.Goals as goal

pub returns : goal.returns
returns c =
    let processors = events.ProcessName 1 (codes "processors") in
    let tasks = events.ProcessName 2 (codes "tasks") ∷ [] in
    let ticks = events.ProcessName events.ticks (codes "ticks") ∷ [] in
    let thread = events.ThreadName (events.only_track events.ticks) (codes "ticks") ∷ [] in
    four_steps c.put_thread.result c.args.to.now.items c.put_process_name.new.to.items c.put_process.new.to.items c.put_process-2.new.to.items
    c.put_thread.new.to.items (events.event_text processors) (events.behind tasks) (events.behind ticks) (events.behind thread)
    (events.joined events.processes)
    c.in_ok-put_process_name.ensures c.in_ok-put_process.ensures c.in_ok-put_process-2.ensures
    (on_ok c.put_thread.result (λ e. e
    ∙ ap (λ (track : Track). c.put_process-2.new.to.items ++ events.behind (events.ThreadName track (codes "ticks") ∷ [])) c.only_track.ensures)
    c.put_thread.ensures)
    (joined-three processors tasks ticks thread)

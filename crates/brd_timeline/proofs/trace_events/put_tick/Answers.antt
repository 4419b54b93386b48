use Rattle.std.proofs.Common.{◌++◌, codes, refl}
use Rattle.std.specs.Fmt.{decimal}
use Rattle.brd_timeline.specs.Events as events
use Rattle.brd_timeline.proofs.EventLemmas.{instants}
use Rattle.brd_timeline.proofs.trace_events.put_tick.Goals as goal

pub returns : goal.returns
returns c =
    let name = codes "tick " ++ decimal c.args.number in
    instants c.put_numbered.result c.args.to.now.items c.put_instant.new.to.items c.put_numbered.new.to.items
    c.only_track.result (events.only_track events.ticks) c.args.at (codes "tick") (codes "tick") name name c.only_track.ensures refl refl
    c.in_ok-put_instant.ensures c.put_numbered.ensures

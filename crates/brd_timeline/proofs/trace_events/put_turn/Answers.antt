use Rattle.std.proofs.Common.{ℕ, ap, ◌++◌, codes, refl}
use Rattle.std.specs.Fmt.{decimal}
use Rattle.brd_timeline.specs.Events as events
use Rattle.brd_timeline.proofs.EventLemmas.{completes}
use Rattle.brd_timeline.proofs.trace_events.put_turn.Goals as goal

pub returns : goal.returns
returns c =
    let it = c.args.turn in
    let name = codes "cpu " ++ decimal it.cpu in
    completes c.put_numbered.result c.args.to.now.items c.put_stretch.new.to.items c.put_numbered.new.to.items
    c.only_track.result (events.only_track events.turns) it.from it.to (codes "turn") (codes "turn") (codes "cpu " ++ decimal c.from.result) name c.only_track.ensures refl (ap (λ (n : ℕ). codes "cpu " ++ decimal n) c.from.ensures)
    c.in_ok-put_stretch.ensures c.put_numbered.ensures

use Rattle.std.proofs.Common.{ap, arith}
use Rattle.std.proofs.lemmas.Option.{slice_get_within}
use Rattle.brd_threads.proofs.StationLemmas.{entry_kept}
use Rattle.brd_threads.proofs.station.Station.take_entry.Goals as goal

pub overflow_add-self : goal.overflow_add-self
overflow_add-self g c =
    let next = rw (← c.self.view_is) at c.requires.next in
    omega (arith, slice_get_within c.self.inside.script.items c.self.inside.taken c.args.entry next)

pub invariant_of-self-2 : goal.invariant_of-self-2
invariant_of-self-2 g c =
    let next = rw (← c.self.view_is) at c.requires.next in
    rw (c.in_ok-record.ensures.ok, c.event-event.ensures)
    (entry_kept c.args.entry next c.self.invariant (rw c.event-event.ensures at (ap (λ h. h.board) c.event_apart.ensures)))

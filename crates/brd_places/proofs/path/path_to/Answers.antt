use Rattle.brd_places.specs.Places.{events_back}
use Rattle.brd_places.proofs.PathLemmas.{path_goes_on}
use Rattle.brd_places.proofs.path.path_to.Goals as goal

pub loop-entry-preserved : goal.loop-entry-preserved
loop-entry-preserved c =
    path_goes_on c.loop-entry.events c.put_events.new.events (events_back c.in_ok-back.back.items) c.loop-entry.back.items
    c.pop.new.self.items c.in-Some.entry c.loop-entry.invariant c.in-Some.ensures.items c.in_ok-put_events.ensures

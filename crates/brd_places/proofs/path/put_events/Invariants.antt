use Rattle.std.specs.Prelude.{◌≡◌, ◌++◌, replicate}
use Rattle.brd_places.proofs.path.put_events.Given as goal

abbrev pub invariant-loop : goal.invariant-loop
invariant-loop l = l.events ≡ l.initial.events ++ replicate l.counter l.event

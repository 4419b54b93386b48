use Rattle.std.specs.Prelude.{◌≡◌}
use Rattle.brd_places.proofs.places.Places.find.Given as goal

abbrev pub invariant-loop : goal.invariant-loop
invariant-loop l = l.self ≡ l.fn.self

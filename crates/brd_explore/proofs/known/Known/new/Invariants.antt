-- No slot so far has a place.
use Rattle.std.specs.Prelude.{List, All, IfSome}
use Rattle.brd_board.specs.declared.event.Event.{Event}
use Rattle.brd_explore.specs.declared.wanted.Wanted.{Wanted}
use Rattle.brd_explore.specs.Searching.{NoneGoes}
use Rattle.brd_explore.specs.Knowing.{spot_of_kept}
use Rattle.brd_explore.proofs.known.Known.new.Given as goal

abbrev pub invariant-loop : goal.invariant-loop
invariant-loop l = (wanted : Wanted) (among : List Event) → All (λ slot. IfSome slot (λ k. NoneGoes wanted among (spot_of_kept k))) l.done.items

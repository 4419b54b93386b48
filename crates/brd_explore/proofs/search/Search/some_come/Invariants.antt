-- None of those so far may come.
use Rattle.std.specs.Prelude.{◌≡◌, false, take}
use Rattle.std.specs.List.{list_any}
use Rattle.brd_explore.specs.Searching.{place_of}
use Rattle.brd_explore.specs.Sharing.{may_come}
use Rattle.brd_explore.proofs.search.Search.some_come.Given as goal

abbrev pub invariant-loop-event : goal.invariant-loop-event
invariant-loop-event l = list_any (may_come (place_of l.self)) (take l.event-index l.among) ≡ false

-- None of the events so far is one.
use Rattle.std.specs.Prelude.{◌≡◌, false, take}
use Rattle.std.specs.List.{list_any}
use Rattle.brd_search.specs.Plans.{is_idle}
use Rattle.brd_search.proofs.coming.some_are_idle.Given as goal

abbrev pub invariant-loop-event : goal.invariant-loop-event
invariant-loop-event l = list_any (is_idle l.board) (take l.event-index l.events) ≡ false

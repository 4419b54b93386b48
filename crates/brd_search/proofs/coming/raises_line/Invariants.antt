-- None of the events so far raises it.
use Rattle.std.specs.Prelude.{◌≡◌, false, take}
use Rattle.std.specs.List.{list_any}
use Rattle.brd_search.specs.Plans.{raises_line}
use Rattle.brd_search.proofs.coming.raises_line.Given as goal

abbrev pub invariant-loop-event : goal.invariant-loop-event
invariant-loop-event l = list_any (raises_line l.line) (take l.event-index l.events) ≡ false

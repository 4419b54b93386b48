-- The events so far and those of the entries that are left are all.
use Rattle.std.specs.Prelude.{◌≡◌, ◌++◌, vec_len}
use Rattle.brd_places.specs.Places.{events_back}
use Rattle.brd_places.proofs.path.path_to.Given as goal

abbrev pub invariant-loop-entry : goal.invariant-loop-entry
invariant-loop-entry l = l.events ++ events_back l.back.items ≡ events_back l.initial.back.items

abbrev pub decreases-loop-entry : goal.decreases-loop-entry
decreases-loop-entry l = vec_len l.back

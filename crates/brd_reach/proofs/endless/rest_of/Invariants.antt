-- What is left is so after the events so far.
use Rattle.std.proofs.Common.{◌≡◌, take}
use Rattle.std.specs.List.{fold}
use Rattle.brd_reach.specs.Endless.{rest_after}
use Rattle.brd_reach.proofs.endless.rest_of.Given as goal

abbrev pub invariant-loop-event : goal.invariant-loop-event
invariant-loop-event l = l.rest ≡ fold rest_after l.fn.left (take l.event-index l.events)

-- the switches so far, and those to come
use Rattle.std.proofs.Common.{◌≡◌, ◌≤◌, None, ◌+◌, drop}
use Rattle.brd_shrink.specs.Turns.{switches_after}
use Rattle.brd_shrink.proofs.turns.switches.Given as goal

abbrev pub invariant-loop-event : goal.invariant-loop-event
invariant-loop-event l = record {
  few : l.count ≤ l.event-index;
  all : l.count + switches_after l.last (drop l.event-index l.events) ≡ switches_after None l.events;
}

-- What was counted, and what is up to there in the rest, are the whole.
use Rattle.std.specs.Prelude.{◌≡◌, ◌+◌, drop}
use Rattle.brd_explore.specs.Ordering.{up_to_own}
use Rattle.brd_explore.proofs.order.up_to_own.Given as goal

abbrev pub invariant-loop-event : goal.invariant-loop-event
invariant-loop-event l = record {
  all : l.count + up_to_own l.last (drop l.event-index l.among) ≡ up_to_own l.last l.among;
  same : l.count ≡ l.event-index;
}

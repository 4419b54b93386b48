-- From here on there was no step.
use Rattle.std.proofs.Common.{◌≡◌, ◌≤◌, None, length, take}
use Rattle.brd_shrink.specs.Turns.{stepper_after}
use Rattle.brd_shrink.proofs.turns.last_stepper.Given as goal

abbrev pub invariant-loop-at : goal.invariant-loop-at
invariant-loop-at l = record {
  within : l.at ≤ length l.events;
  last : stepper_after None (take l.at l.events) ≡ stepper_after None l.events;
}

abbrev pub decreases-loop-at : goal.decreases-loop-at
decreases-loop-at l = l.at

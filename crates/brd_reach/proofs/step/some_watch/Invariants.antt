-- None of the failures so far watches the instruction.
use Rattle.std.proofs.Common.{◌≡◌, false, take}
use Rattle.std.specs.List.{list_any}
use Rattle.brd_reach.specs.Rounds.{watches}
use Rattle.brd_reach.proofs.step.some_watch.Given as goal

abbrev pub invariant-loop-failure : goal.invariant-loop-failure
invariant-loop-failure l = list_any (watches l.address) (take l.failure-index l.failures) ≡ false

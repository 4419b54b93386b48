-- The board shows none of the failures so far.
use Rattle.std.specs.Prelude.{◌≡◌, false, take}
use Rattle.std.specs.List.{list_any}
use Rattle.brd_explore.specs.Failures.{fails_at_last}
use Rattle.brd_explore.proofs.wanted.Wanted.lacks.Given as goal

abbrev pub invariant-loop-failure : goal.invariant-loop-failure
invariant-loop-failure l = list_any (fails_at_last l.board) (take l.failure-index l.self.failures) ≡ false

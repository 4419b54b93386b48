-- The first that the board shows is the first of those that are left.
use Rattle.std.specs.Prelude.{◌≡◌, drop}
use Rattle.brd_explore.specs.Failures.{first_so, fails_by_now}
use Rattle.brd_explore.proofs.wanted.Wanted.shown_now.Given as goal

abbrev pub invariant-loop-failure : goal.invariant-loop-failure
invariant-loop-failure l =
    first_so (fails_by_now l.board) (drop l.failure-index l.self.failures)
    ≡ first_so (fails_by_now l.board) l.self.failures

-- None fails with fewer preemptions.
use Rattle.std.specs.Prelude.{ℕ, ◌<◌}
use Rattle.brd_search.specs.Searches.{NoneWithin}
use Rattle.brd_search.proofs.searching.with_fewest.Given as goal

abbrev pub invariant-loop-preemptions : goal.invariant-loop-preemptions
invariant-loop-preemptions g l = (preemptions : ℕ) → preemptions < l.preemptions →
    NoneWithin l.plan l.board (record l.plan.bounds { preemptions = preemptions })

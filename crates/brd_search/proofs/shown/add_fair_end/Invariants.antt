-- the rounds so far
use Rattle.std.proofs.Common.{◌≡◌, ◌++◌}
use Rattle.brd_search.specs.Plans.{times}
use Rattle.brd_search.proofs.shown.add_fair_end.Given as goal

abbrev pub invariant-loop : goal.invariant-loop
invariant-loop l = l.events.items ≡ l.fn.events.items ++ times l.counter l.wanted.round

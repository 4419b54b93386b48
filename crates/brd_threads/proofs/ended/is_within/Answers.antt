use Rattle.brd_threads.proofs.RaceLemmas.{with_first}
use Rattle.brd_threads.proofs.ended.is_within.Goals as goal

pub returns-then-is_short : goal.returns-then-is_short
returns-then-is_short g c = with_first c.are_of_first-is_own.result (c.is_short.ensures.0 c.if-is_short.true) c.are_of_first-is_own.ensures

use Rattle.brd_threads.proofs.RaceLemmas.{with_first}
use Rattle.brd_threads.proofs.ended.is_of.Goals as goal

pub returns-then-is_of : goal.returns-then-is_of
returns-then-is_of g c = with_first c.is_within-is_within.result (c.is_of.ensures.0 c.if-is_of.true) c.is_within-is_within.ensures

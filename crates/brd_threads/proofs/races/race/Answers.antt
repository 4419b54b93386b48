use Rattle.brd_threads.proofs.RaceLemmas.{answered_has}
use Rattle.brd_threads.proofs.races.race.Goals as goal

pub returns-clause-left : goal.returns-clause-left
returns-clause-left g c = answered_has _ _ _ _ c.answer.result c.answer.ensures

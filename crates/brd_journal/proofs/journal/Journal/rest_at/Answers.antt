use Rattle.brd_journal.proofs.RestLemmas.{found_comes}
use Rattle.brd_journal.proofs.journal.Journal.rest_at.Goals as goal

pub returns-clause-comes : goal.returns-clause-comes
returns-clause-comes c = rw (← c.self.view_is) (found_comes _ c.args.others _ c.rest_after.ensures)

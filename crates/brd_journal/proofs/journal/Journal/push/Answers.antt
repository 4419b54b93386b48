use Rattle.brd_journal.proofs.EventLemmas.{copies-one}
use Rattle.brd_journal.proofs.journal.Journal.push.Goals as goal

pub returns-clause-appended : goal.returns-clause-appended
returns-clause-appended c = rw copies-one at c.push_run.ensures.appended

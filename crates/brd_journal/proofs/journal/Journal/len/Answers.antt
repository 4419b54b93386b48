use Rattle.brd_journal.proofs.KeptLemmas.{kept_few}
use Rattle.brd_journal.proofs.journal.Journal.len.Goals as goal

pub returns-clause-bound : goal.returns-clause-bound
returns-clause-bound c = kept_few c.self.inside.limit c.self.inside.runs c.self.inside.len c.self.invariant

use Rattle.brd_journal.proofs.RestLemmas.{rest_some}
use Rattle.brd_journal.proofs.journal.Journal.event_at.Goals as goal

pub returns : goal.returns
returns c = rest_some c.args.self.now.events c.args.others _ c.in_ok-rest.ensures.comes

use Rattle.brd_happening.proofs.WaitLemmas.{alone-released}
use Rattle.brd_happening.proofs.laws.no_other_event_releases.Goals as goal

pub returns : goal.returns
returns c = alone-released

use Rattle.brd_happening.proofs.ToldLemmas.{event-told}
use Rattle.brd_happening.proofs.laws.each_event_is_told.Goals as goal

pub returns : goal.returns
returns c = event-told

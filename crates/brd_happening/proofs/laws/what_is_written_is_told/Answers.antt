use Rattle.brd_happening.proofs.TellingLemmas.{effect-told}
use Rattle.brd_happening.proofs.laws.what_is_written_is_told.Goals as goal

pub returns : goal.returns
returns c = effect-told

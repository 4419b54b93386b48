use Rattle.brd_happening.proofs.StoreLemmas.{store-told}
use Rattle.brd_happening.proofs.laws.what_is_stored_is_told.Goals as goal

pub returns : goal.returns
returns c = store-told

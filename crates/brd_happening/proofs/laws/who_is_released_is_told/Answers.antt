use Rattle.brd_happening.proofs.CallLemmas.{all-released}
use Rattle.brd_happening.proofs.laws.who_is_released_is_told.Goals as goal

pub returns : goal.returns
returns c = all-released

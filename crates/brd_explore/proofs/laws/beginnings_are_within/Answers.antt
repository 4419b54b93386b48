use Rattle.brd_explore.proofs.LawLemmas.{within-front}
use Rattle.brd_explore.proofs.laws.beginnings_are_within.Goals as goal

pub returns : goal.returns
returns c = within-front

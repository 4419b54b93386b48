use Rattle.brd_frames.proofs.ReduceLemmas.{reduced}
use Rattle.brd_reach.proofs.ReachLemmas.{none-fails}
use Rattle.brd_reach.proofs.laws.a_closed_tree_shows_that_none_fails.Goals as goal

pub returns : goal.returns
returns g c by among wanted = none-fails reduced by among wanted g.P.Places.is_place

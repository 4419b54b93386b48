use Rattle.brd_lazy.proofs.FollowLemmas.{none-fails}
use Rattle.brd_lazy.proofs.laws.a_fine_tree_shows_that_none_fails.Goals as goal

pub returns : goal.returns
returns g c by among wanted = none-fails by among wanted g.P.Places.is_place

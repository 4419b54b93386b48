use Rattle.brd_lazy.proofs.FollowLemmas.{lazy}
use Rattle.brd_lazy.proofs.laws.a_lazy_tree_lags_behind_every_schedule.Goals as goal

pub returns : goal.returns
returns g c by among = lazy by among g.P.Places.is_place

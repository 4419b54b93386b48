use Rattle.brd_frames.proofs.ReduceLemmas.{reduced}
use Rattle.brd_frames.proofs.laws.a_reduced_tree_lags_behind_every_board.Goals as goal

pub returns : goal.returns
returns g c by = reduced by _ g.L.Left.pays g.L.Left.is_place

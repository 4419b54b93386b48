use Rattle.brd_explore.proofs.AwakeLemmas.{larger}
use Rattle.brd_explore.proofs.laws.larger_bounds_find_as_much.Goals as goal

pub returns : goal.returns
returns c = larger

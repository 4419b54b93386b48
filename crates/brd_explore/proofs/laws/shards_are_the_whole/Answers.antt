use Rattle.brd_explore.proofs.ShardLemmas.{none-in-all}
use Rattle.brd_explore.proofs.laws.shards_are_the_whole.Goals as goal

pub returns : goal.returns
returns c = none-in-all

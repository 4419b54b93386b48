use Rattle.std.proofs.Common.{subst}
use Rattle.brd_explore.specs.Schedules.{start}
use Rattle.brd_search.specs.Searches.{NoneIn}
use Rattle.brd_search.proofs.laws.plans_of_all_shards_are_the_whole.Goals as goal

pub returns : goal.returns
returns c = λ of some plan b bounds whole none.
    c.shards_are_the_whole.ensures of some plan.wanted plan.among (start b bounds)
    (λ shard is less. subst (λ anywhere. NoneIn anywhere (record plan { shard = shard }) b bounds) whole (none shard is less))

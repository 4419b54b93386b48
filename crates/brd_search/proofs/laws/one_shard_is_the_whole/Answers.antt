use Rattle.std.proofs.Common.{subst, arith}
use Rattle.brd_explore.specs.Schedules.{start}
use Rattle.brd_explore.specs.Shards.{NoneFailsInShard}
use Rattle.brd_search.specs.Searches.{NoneIn}
use Rattle.brd_search.proofs.PlanLemmas.{one_shard}
use Rattle.brd_search.proofs.laws.one_shard_is_the_whole.Goals as goal

pub returns : goal.returns
returns c = λ plan b bounds is whole none.
    c.shards_are_the_whole.ensures 1 (omega arith) plan.wanted plan.among (start b bounds)
    (λ shard of below. subst (λ s. NoneFailsInShard plan.wanted s plan.among (start b bounds))
    (one_shard plan.shard shard is of below)
    (subst (λ anywhere. NoneIn anywhere plan b bounds) whole none))

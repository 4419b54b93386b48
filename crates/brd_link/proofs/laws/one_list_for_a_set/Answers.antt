use Rattle.std.proofs.Common.{not, ◌||◌, ◌==◌}
use Rattle.brd_link.specs.LinkSet.{is_same_block}
use Rattle.brd_link.proofs.LinkLemmas.{same_sets, AllFrom-with_link, AllFrom-filter, AllFrom-without_all}
use Rattle.brd_link.proofs.laws.one_list_for_a_set.Goals as goal

pub returns-clause-same : goal.returns-clause-same
returns-clause-same c a b is_a is_b = same_sets a b 1 1 is_a is_b

pub returns-clause-set : goal.returns-clause-set
returns-clause-set c links cpu address from to = AllFrom-with_link links 1 cpu address from to

pub returns-clause-ended : goal.returns-clause-ended
returns-clause-ended c links cpu =
    AllFrom-filter (λ link. not (link.processor == cpu)) links 1

pub returns-clause-all_ended : goal.returns-clause-all_ended
returns-clause-all_ended c links cpus = AllFrom-without_all links cpus 1

pub returns-clause-stored : goal.returns-clause-stored
returns-clause-stored c links cpu address =
    AllFrom-filter (λ link. link.processor == cpu || not (is_same_block link.address address)) links 1

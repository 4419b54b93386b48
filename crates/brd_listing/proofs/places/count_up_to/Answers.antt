use Rattle.std.proofs.Common.{rules, sym, leb}
use Rattle.std.proofs.lemmas.List.Sorted.{IsPartitionPoint-from_clause, IsPartitionedBy-leb}
use Rattle.brd_listing.proofs.AscendingLemmas.{prefix_from_point}
use Rattle.brd_listing.proofs.places.count_up_to.Goals as goal

pub returns-clause-is : goal.returns-clause-is
returns-clause-is c =
    let xs = c.args.ascending.now in
    sym (prefix_from_point (λ s. leb s.now.value c.args.value) xs c.partition_point.result c.partition_point.ensures.bound
    (IsPartitionPoint-from_clause (λ s. leb s.now.value c.args.value) xs c.partition_point.result c.partition_point.ensures.partitioned
    (IsPartitionedBy-leb (λ s. s.now.value) xs c.args.value c.requires) (λ a r q k. search rules)))

use Rattle.std.proofs.Common.{subst}
use Rattle.brd_explore.specs.Schedules.{start}
use Rattle.brd_explore.proofs.ShardLemmas.{none-in-one}
use Rattle.brd_lazy.specs.Finding.{FoundSo}
use Rattle.brd_search.proofs.searching.within_lazily.Goals as goal

pub returns-in-NoneFails-clause-is : goal.returns-in-NoneFails-clause-is
returns-in-NoneFails-clause-is g c =
    let from = start c.args.board.now c.args.bounds in
    let so = subst (λ es. FoundSo c.args.plan.now.wanted es from c.in_ok-found.found) c.as_slice.ensures c.in_ok-found.ensures.is in
    none-in-one c.args.plan.now.wanted c.args.plan.now.shard c.args.plan.now.among from
    (subst (FoundSo c.args.plan.now.wanted c.args.plan.now.among from) c.in-NoneFails.is so)

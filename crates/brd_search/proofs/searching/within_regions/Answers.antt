use Rattle.std.proofs.Common.{sym, subst}
use Rattle.brd_explore.specs.Schedules.{start}
use Rattle.brd_only.specs.Only.{FoundSo}
use Rattle.brd_search.specs.Searches.{NoneIn}
use Rattle.brd_search.proofs.RegionLemmas.{found-in}
use Rattle.brd_search.proofs.searching.within_regions.Goals as goal

pub returns-in-Err-clause-stops : goal.returns-in-Err-clause-stops
returns-in-Err-clause-stops g c =
    c.stopped.ensures c.args.plan.now c.args.board.now g.W.Watch.may_stop c.in-Err.ensures.halts

pub returns-in-Found-clause-is : goal.returns-in-Found-clause-is
returns-in-Found-clause-is g c =
    let plan = c.args.plan.now in
    let from = start c.args.board.now c.args.bounds in
    let so = subst (λ es. FoundSo plan.wanted es plan.regions from c.in-Ok.found) c.as_slice.ensures c.in-Ok.ensures.is in
    found-in plan c.args.board.now c.args.bounds c.in-Found.events.items
    (subst (FoundSo plan.wanted plan.among plan.regions from) c.in-Found.is so)

pub returns-in-NoneFails-clause-is : goal.returns-in-NoneFails-clause-is
returns-in-NoneFails-clause-is g c =
    let plan = c.args.plan.now in
    let from = start c.args.board.now c.args.bounds in
    let so = subst (λ es. FoundSo plan.wanted es plan.regions from c.in-Ok.found) c.as_slice.ensures c.in-Ok.ensures.is in
    subst (λ anywhere. NoneIn anywhere plan c.args.board.now c.args.bounds) (sym c.requires)
    (subst (FoundSo plan.wanted plan.among plan.regions from) c.in-NoneFails.is so)

use Rattle.std.proofs.Common.{sym, ◌∙◌}
use Rattle.brd_search.proofs.RegionLemmas.{whole-answers}
use Rattle.brd_search.proofs.searching.within.Goals as goal

pub returns-clause-is : goal.returns-clause-is
returns-clause-is g c =
    whole-answers c.args.plan.now c.args.board.now c.args.bounds c.within_whole.result (sym c.are_none.ensures ∙ c.if-not-are_none.false)
    c.within_whole.ensures.is

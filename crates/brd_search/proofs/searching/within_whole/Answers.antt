use Rattle.std.proofs.Common.{sym, subst}
use Rattle.brd_explore.specs.Searching.{HaltsSo}
use Rattle.brd_search.proofs.searching.within_whole.Goals as goal

pub returns-in-Err-clause-stops : goal.returns-in-Err-clause-stops
returns-in-Err-clause-stops g c =
    c.stopped.ensures c.args.plan.now c.args.board.now g.W.Watch.may_stop
    (subst (HaltsSo g.W.Watch.may_stop) (sym c.in-Err.halt-is) c.in-Err.ensures.halts)

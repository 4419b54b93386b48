use Rattle.std.proofs.Common.{arith}
use Rattle.brd_search.proofs.StopLemmas.{below-none}
use Rattle.brd_search.proofs.searching.shortest.Goals as goal

pub returns-in-Err-clause-stops : goal.returns-in-Err-clause-stops
returns-in-Err-clause-stops g c =
    c.no_answer.ensures c.args.plan.now c.args.board.now g.W.Watch.may_stop c.in-Err.ensures.stops (omega arith)
    (below-none c.args.plan.now c.args.board.now)

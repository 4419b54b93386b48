use Rattle.std.proofs.Common.{arith, rules}
use Rattle.brd_search.proofs.StopLemmas.{below-next}
use Rattle.brd_search.proofs.searching.with_fewest.Goals as goal

pub returns-in-Err-clause-stops : goal.returns-in-Err-clause-stops
returns-in-Err-clause-stops g c =
    c.no_answer.ensures c.args.plan.now c.args.board.now g.W.Watch.may_stop c.in-Err.ensures.stops
    (omega (arith, c.loop-preemptions-test.true)) c.loop-preemptions.invariant

pub returns-in-Err-within-clause-stops : goal.returns-in-Err-within-clause-stops
returns-in-Err-within-clause-stops g c =
    c.no_answer-in-Err-within.ensures c.args.plan.now c.args.board.now g.W.Watch.may_stop c.in-Err-within.ensures.stops
    (omega (arith, c.loop-preemptions-test.true))
    (below-next c.args.plan.now c.args.board.now c.loop-preemptions.preemptions c.in-Ok.searched.schedule c.loop-preemptions.invariant
    (search rules) c.in-Ok.ensures.is)

pub returns-in-Err-within-2-clause-stops : goal.returns-in-Err-within-2-clause-stops
returns-in-Err-within-2-clause-stops g c =
    c.no_answer-in-Err-within-2.ensures c.args.plan.now c.args.board.now g.W.Watch.may_stop c.in-Err-within-2.ensures.stops
    (omega arith) (search rules)

pub loop-preemptions-preserved : goal.loop-preemptions-preserved
loop-preemptions-preserved g c =
    below-next c.args.plan.now c.args.board.now c.loop-preemptions.preemptions c.in-Ok.searched.schedule c.loop-preemptions.invariant
    (search rules) c.in-Ok.ensures.is

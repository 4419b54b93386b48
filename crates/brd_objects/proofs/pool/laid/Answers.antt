use Rattle.std.proofs.Common.{arith}
use Rattle.brd_objects.proofs.PoolLemmas.{laid-next, laid-few}
use Rattle.brd_objects.proofs.pool.laid.Goals as goal

pub loop-preserved : goal.loop-preserved
loop-preserved c = laid-next _ _ _ c.args.count c.loop.counter c.args.distance c.loop.address _ c.loop.invariant (omega arith) c.in_ok-push.ensures.items (omega arith)

pub returns-clause-long : goal.returns-clause-long
returns-clause-long c = laid-few _ c.args.count c.loop.counter c.args.distance c.args.start c.loop.address c.loop.invariant (omega arith)

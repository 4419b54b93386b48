use Rattle.std.proofs.Common.{◌∙◌}
use Rattle.brd_stub.proofs.PointLemmas.{differ-on}
use Rattle.brd_stub.proofs.points.differ.Goals as goal

pub loop-i-preserved : goal.loop-i-preserved
loop-i-preserved c =
    differ-on c.args.before.now.memory c.args.after.now.memory c.args.address c.loop-i.i c.args.length c.is_other.result
    c.memory.result c.memory-in-loop-i.result c.loop-i-test.true c.memory.ensures c.memory-in-loop-i.ensures
    c.is_other.ensures c.if-is_other.false
    ∙ c.loop-i.invariant

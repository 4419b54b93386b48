use Rattle.brd_stub.specs.Threads.{handling}
use Rattle.brd_stub.proofs.PointLemmas.{handled-here, handled-on}
use Rattle.brd_stub.proofs.threads.handling.Goals as goal

pub returns-then-is_handling : goal.returns-then-is_handling
returns-then-is_handling c =
    handled-here c.args.board.now c.args.line c.loop-cpu.cpu c.standing.result c.is_handling.result
    (handling c.args.board.now c.args.line) c.loop-cpu-test.true c.standing.ensures c.is_handling.ensures
    c.if-is_handling.true c.loop-cpu.invariant

pub loop-cpu-preserved : goal.loop-cpu-preserved
loop-cpu-preserved c =
    handled-on c.args.board.now c.args.line c.loop-cpu.cpu c.standing.result c.is_handling.result
    (handling c.args.board.now c.args.line) c.loop-cpu-test.true c.standing.ensures c.is_handling.ensures
    c.if-is_handling.false c.loop-cpu.invariant

use Rattle.std.proofs.Common.{arith}
use Rattle.brd_stacks.proofs.LaidLemmas.{handlers-on}
use Rattle.brd_stacks.proofs.laid.put_handlers.Goals as goal

pub loop-handler-preserved : goal.loop-handler-preserved
loop-handler-preserved c = handlers-on c.args.symbols.now c.args.handlers.now c.loop-handler.handler-index c.handler-item.result _ c.loop-handler.stacks _
    (omega (arith, c.loop-handler-test.true)) c.handler-item.is c.in_ok-put_handler.ensures c.loop-handler.invariant

use Rattle.std.proofs.Common.{refl, arith}
use Rattle.brd_stacks.specs.Laid.{handler_stack}
use Rattle.brd_stacks.proofs.LaidLemmas.{next-line, none-left}
use Rattle.brd_stacks.proofs.laid.put_time_handlers.Goals as goal

pub loop-line-init : goal.loop-line-init
loop-line-init c = record { most = omega arith; all = refl }

pub loop-line-preserved : goal.loop-line-preserved
loop-line-preserved c = record {
  most = omega (arith, c.loop-line-test.true);
  all = next-line (handler_stack c.args.symbols.now) c.loop-line.stacks c.put_handler.new.stacks _ c.loop-line.line 160
      (omega (arith, c.loop-line-test.true)) c.in_ok-put_handler.ensures c.loop-line.invariant.all;
}

pub returns : goal.returns
returns c =
    none-left (handler_stack c.args.symbols.now) c.loop-line.stacks _ c.loop-line.line 160
    (omega (arith, c.loop-line-test.false)) c.loop-line.invariant.all

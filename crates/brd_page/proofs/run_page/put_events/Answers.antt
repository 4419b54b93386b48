use Rattle.std.proofs.Common.{arith}
use Rattle.brd_page.proofs.run_page.put_events.Goals as goal

-- One event more is recorded.
pub loop-recorder-preserved : goal.loop-recorder-preserved
loop-recorder-preserved c = record {
  on = omega (arith, c.in_ok-step.ensures.goes, c.loop-recorder-test.true);
  both = c.in_ok-step.ensures.both;
  recorded = λ boot from is. c.in_ok-step.ensures.recorded boot from (c.loop-recorder.invariant.recorded boot from is);
}

use Rattle.brd_summary.specs.Findings.{IsRefused}
use Rattle.brd_summary.proofs.SummaryLemmas.{texts-on}
use Rattle.brd_summary.proofs.findings.put_refusals.Goals as goal

pub loop-i-preserved : goal.loop-i-preserved
loop-i-preserved c =
    texts-on (IsRefused c.args.names) c.args.kinds.now c.loop-i.i c.args.out.now.items c.loop-i.out.items
    c.put_refused.new.out.items _ c.loop-i-test.true c.loop-i.invariant c.in_ok-put_refused.ensures

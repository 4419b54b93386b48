use Rattle.std.proofs.Common.{refl}
use Rattle.brd_report.proofs.OutputLemmas.{took, interrupted}
use Rattle.brd_report.proofs.output.write_whole.Goals as goal
use Rattle.brd_report.proofs.output.write_whole.Goals.{in-Ok, in-Err+else-ne}

pub loop-preserved : goal.loop-preserved
loop-preserved g c =
    elim c.match-write.branch [
      | in-Ok w ↦ rw w.left-is (took _ _ _ _ _ _ _ c.loop.invariant w.in-Ok.ensures.bytes w.split_at.ensures.back)
      | in-Err+else-ne w ↦ rw w.left-is (interrupted _ _ _ _ _ _ c.loop.invariant w.in-Err.ensures.bytes refl)
    ]

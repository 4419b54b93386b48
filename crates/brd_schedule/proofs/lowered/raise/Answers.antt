use Rattle.brd_schedule.proofs.StepLemmas.{raised_next}
use Rattle.brd_schedule.proofs.lowered.raise.Goals as goal

pub loop-priority-preserved : goal.loop-priority-preserved
loop-priority-preserved c =
    raised_next c.args.by c.args.priorities.now c.loop-priority.priorities c.loop-priority.priority-index c.saturating_add.result
    c.loop-priority-test.true c.loop-priority.invariant c.saturating_add.ensures

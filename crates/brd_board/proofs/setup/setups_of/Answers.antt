use Rattle.std.proofs.Common.{sym, ap, ◌∙◌}
use Rattle.std.proofs.lemmas.Result.{err_from_is_err_and}
use Rattle.brd_board.proofs.SetupLemmas.{behind, fails, tasks-stop, tasks-on, tasks-end, setups-more}
use Rattle.brd_board.proofs.setup.setups_of.Goals as goal

pub returns-in_err-placed-clause-is : goal.returns-in_err-placed-clause-is
returns-in_err-placed-clause-is c =
    let p = err_from_is_err_and c.from_residual.result c.from_residual.ensures.1 in
    rw (p.1, p.2)
    (fails c.in_err-placed.field-0.0 _
    (sym c.loop-task.invariant.is
    ∙ ap (behind c.loop-task.setups) (tasks-stop _ _ _ _ _ c.task-item.result _ c.loop-task-test.true c.task-item.is (sym c.placed_task.ensures.is ∙ c.in_err-placed.was))))

pub loop-task-preserved : goal.loop-task-preserved
loop-task-preserved c = record {
  is = rw c.in_ok-push.ensures.ok
      (tasks-on _ _ _ _ _ c.task-item.result c.in_ok-placed.placed _ c.loop-task-test.true c.task-item.is (sym c.placed_task.ensures.is ∙ c.in_ok-placed.was))
      ∙ c.loop-task.invariant.is;
  well = rw c.in_ok-push.ensures.ok
      (setups-more _ _ c.task-item.result _ _ c.requires c.loop-task-test.true c.task-item.is c.in_ok-placed.ensures.same.0 c.in_ok-placed.ensures.same.1 c.loop-task.invariant.well);
}

pub returns-clause-is : goal.returns-clause-is
returns-clause-is c = sym c.loop-task.invariant.is ∙ tasks-end _ _ _ _ _ _ c.loop-task-test.false

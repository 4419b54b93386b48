use Rattle.std.proofs.Common.{sym, ap, ◌∙◌, Some, arith}
use Rattle.std.specs.Option.{option_map}
use Rattle.brd_objects.proofs.ChangeLemmas.{changed_goes_on, none_stays}
use Rattle.brd_objects.proofs.objects.reorder_each.Goals as goal
use Rattle.brd_objects.proofs.objects.reorder_each.Goals.{in-Some, in_default}

pub loop-row-preserved : goal.loop-row-preserved
loop-row-preserved g c =
    elim c.match-row.branch [
      | in-Some w ↦ changed_goes_on (g.T.Object.reordered c.args.task c.args.priority) _ c.loop-row.row-items c.match-row.row-items c.loop-row.row-index c.row-item.result _ (omega (arith, c.loop-row-test.true, c.loop-row.auto.row-items)) w.row-items-is (ap (λ x. Some x) w.reorder.ensures ∙ sym (ap (option_map (g.T.Object.reordered c.args.task c.args.priority)) w.in-Some.is)) c.loop-row.invariant
      | in_default w ↦ changed_goes_on (g.T.Object.reordered c.args.task c.args.priority) _ c.loop-row.row-items c.match-row.row-items c.loop-row.row-index c.row-item.result _ (omega (arith, c.loop-row-test.true, c.loop-row.auto.row-items)) w.row-items-is (none_stays (g.T.Object.reordered c.args.task c.args.priority) _ w.in_default.is) c.loop-row.invariant
    ]

use Rattle.std.proofs.Common.{sym, ap, ◌∙◌}
use Rattle.brd_objects.specs.Rows.{table_of}
use Rattle.brd_objects.specs.Table.{objects_changed}
use Rattle.brd_objects.proofs.RowLemmas.{changed_rows}
use Rattle.brd_objects.proofs.objects.Objects.leave.Goals as goal

pub returns : goal.returns
returns g c =
    ap table_of c.leave_each.ensures
    ∙ sym (changed_rows (g.T.Object.left c.args.task) c.self.inside.rows.items)
    ∙ ap (objects_changed (g.T.Object.left c.args.task)) c.self.view_is

-- From each object that was passed the task is gone.
use Rattle.std.proofs.Common.{◌≡◌, ◌++◌, take, drop}
use Rattle.brd_objects.specs.Table.{objects_changed}
use Rattle.brd_objects.proofs.objects.leave_each.Given as goal

abbrev pub invariant-loop-row : goal.invariant-loop-row
invariant-loop-row g l = objects_changed (g.T.Object.left l.task) l.fn.rows.items ≡ take l.row-index l.row-items ++ objects_changed (g.T.Object.left l.task) (drop l.row-index l.row-items)

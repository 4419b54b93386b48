use Rattle.std.proofs.Common.{sym, ap}
use Rattle.brd_tasks.specs.Tasks.{TaskTable, task_at}
use Rattle.brd_tasks.proofs.Consistency.{consistent-patched-as}
use Rattle.brd_tasks.proofs.tasks.Tasks.patch.Goals as goal

pub invariant_of-self : goal.invariant_of-self
invariant_of-self c =
    let t : TaskTable = record { rows = c.self.inside.rows.items; contexts = c.self.inside.contexts.items; ready = c.self.inside.ready } in
    consistent-patched-as t c.args.id c.args.task (task_at c.args.self.now c.args.id) c.self.invariant (ap (λ (x : TaskTable). task_at x c.args.id) (sym c.self.view_is))
    c.requires.known c.requires.same c.requires.well

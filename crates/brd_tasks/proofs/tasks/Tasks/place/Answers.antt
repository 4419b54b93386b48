use Rattle.std.proofs.Common.{◌≡◌, sym, ap, ◌∙◌, subst}
use Rattle.std.specs.Prelude.{IsSome}
use Rattle.brd_tasks.specs.Tasks.{TaskTable, task_at}
use Rattle.brd_tasks.proofs.Consistency.{left-new-as, consistent-placed-as}
use Rattle.brd_tasks.proofs.tasks.Tasks.place.Goals as goal

pub enter-requires-clause-new : goal.enter-requires-clause-new
enter-requires-clause-new c = λ cpu.
    let t : TaskTable = record { rows = c.self.inside.rows.items; contexts = c.self.inside.contexts.items; ready = c.self.inside.ready } in
    let old : c.task-old.result ≡ task_at t c.args.id = c.task-old.ensures.is ∙ ap (λ (x : TaskTable). task_at x c.args.id) (sym c.self.view_is) in
    left-new-as t c.args.id cpu c.task-old.result c.leave.new.self c.self.invariant old c.leave.ensures

pub invariant_of-self : goal.invariant_of-self
invariant_of-self c =
    let t : TaskTable = record { rows = c.self.inside.rows.items; contexts = c.self.inside.contexts.items; ready = c.self.inside.ready } in
    let old : c.task-old.result ≡ task_at t c.args.id = c.task-old.ensures.is ∙ ap (λ (x : TaskTable). task_at x c.args.id) (sym c.self.view_is) in
    let there : IsSome c.task-old.result = subst IsSome (sym c.task-old.ensures.is) c.requires.known in
    consistent-placed-as t c.args.id c.args.task c.task-old.result c.leave.new.self c.enter.new.self c.self.invariant old there c.leave.ensures c.enter.ensures c.requires.well

use Rattle.std.proofs.Common.{arith}
use Rattle.brd_tasks.specs.Tasks.{TaskTable}
use Rattle.brd_tasks.proofs.Consistency.{consistent-turned-as}
use Rattle.brd_tasks.proofs.tasks.Tasks.rotate.Goals as goal

pub invariant_of-self : goal.invariant_of-self
invariant_of-self c =
    let t : TaskTable = record { rows = c.self.inside.rows.items; contexts = c.self.inside.contexts.items; ready = c.self.inside.ready } in
    consistent-turned-as t c.args.cpu c.args.priority c.rotate.new.self c.self.invariant (omega (arith, c.requires.1)) c.rotate.ensures.is c.rotate.ensures.stay

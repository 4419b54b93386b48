use Rattle.std.proofs.Common.{ap, ◌∙◌, arith}
use Rattle.brd_tasks.specs.Tasks.{TaskTable, are_there}
use Rattle.brd_tasks.proofs.ThereLemmas.{has-context}
use Rattle.brd_tasks.proofs.tasks.Tasks.start.Goals as goal

pub index_mut-requires : goal.index_mut-requires
index_mut-requires c =
    let t : TaskTable = record { rows = c.self.inside.rows.items; contexts = c.self.inside.contexts.items; ready = c.self.inside.ready } in
    let there = has-context c.args.self.now t c.args.id c.self.invariant (ap are_there c.self.view_is ∙ c.place.ensures.there) (c.requires.known) in
    omega (arith, there, c.self.inside.contexts.ok.0)

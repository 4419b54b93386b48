use Rattle.brd_tasks.proofs.MadeLemmas.{made-consistent-as}
use Rattle.brd_tasks.proofs.tasks.Tasks.new.Goals as goal

pub invariant_of-result : goal.invariant_of-result
invariant_of-result c =
    made-consistent-as c.args.setups.now c.in_ok-rows_of.field-0.items c.in_ok-contexts_of.field-0.items c.in_ok-new.field-0
    c.in_ok-rows_of.ensures c.in_ok-contexts_of.ensures c.in_ok-new.ensures c.requires

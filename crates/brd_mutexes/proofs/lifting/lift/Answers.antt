use Rattle.brd_mutexes.proofs.LiftedLemmas.{lifted-is}
use Rattle.brd_mutexes.proofs.lifting.lift.Goals as goal

pub returns-clause-is : goal.returns-clause-is
returns-clause-is c = lifted-is c.args.priorities.now c.args.holders.now c.lift_all.new.priorities c.lift_all.ensures

use Rattle.brd_mutexes.proofs.PassLemmas.{begins}
use Rattle.brd_mutexes.proofs.lifting.lift_all.Goals as goal

pub passes-init : goal.passes-init
passes-init c = begins c.args.priorities.now c.args.holders.now

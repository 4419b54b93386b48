use Rattle.brd_sysgate.proofs.AgainLemmas.{told-again}
use Rattle.brd_sysgate.proofs.laws.again_is_told_before_the_call.Goals as goal

pub returns : goal.returns
returns c = told-again

use Rattle.brd_exec.proofs.ZeroLemmas.{zero-ran}
use Rattle.brd_exec.proofs.laws.register_0_stays_0.Goals as goal

pub returns : goal.returns
returns c = zero-ran

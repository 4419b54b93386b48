use Rattle.brd_exec.proofs.StoringLemmas.{kept-ran}
use Rattle.brd_exec.proofs.laws.only_stores_change_memory.Goals as goal

pub returns : goal.returns
returns c = kept-ran

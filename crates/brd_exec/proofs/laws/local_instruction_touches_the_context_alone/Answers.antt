use Rattle.brd_exec.proofs.LocalLemmas.{local-meaning}
use Rattle.brd_exec.proofs.laws.local_instruction_touches_the_context_alone.Goals as goal

pub returns : goal.returns
returns c = local-meaning

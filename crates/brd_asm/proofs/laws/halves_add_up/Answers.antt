use Rattle.brd_asm.proofs.HalfLemmas.{halves}
use Rattle.brd_asm.proofs.laws.halves_add_up.Goals as goal

pub returns : goal.returns
returns c = halves

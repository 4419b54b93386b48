use Rattle.brd_asm.proofs.OneImage.{one_list_of_stretches}
use Rattle.brd_asm.proofs.laws.a_memory_has_one_list_of_stretches.Goals as goal

pub returns : goal.returns
returns c = one_list_of_stretches

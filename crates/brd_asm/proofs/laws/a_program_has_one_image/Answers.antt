use Rattle.brd_asm.proofs.OneImage.{one_image}
use Rattle.brd_asm.proofs.laws.a_program_has_one_image.Goals as goal

pub returns : goal.returns
returns c = one_image

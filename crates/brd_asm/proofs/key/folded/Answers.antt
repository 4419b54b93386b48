use Rattle.std.proofs.Common.{refl}
use Rattle.brd_asm.specs.Key.{folded}
use Rattle.brd_asm.proofs.key.folded.Goals as goal

pub returns : goal.returns
unfolding folded
returns c = refl

use Rattle.std.proofs.Common.{arith}
use Rattle.std.proofs.lemmas.Grind.{common_steps}
use Rattle.brd_timeline.specs.Bars.{slices_text}
use Rattle.brd_timeline.proofs.slice.put_slices.Goals as goal

pub returns : goal.returns
unfolding slices_text
returns c = grind (arith, common_steps)

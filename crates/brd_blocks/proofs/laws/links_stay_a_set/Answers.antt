use Rattle.brd_blocks.proofs.LinkLemmas.{stays-set}
use Rattle.brd_blocks.proofs.laws.links_stay_a_set.Goals as goal

pub returns : goal.returns
returns c = stays-set

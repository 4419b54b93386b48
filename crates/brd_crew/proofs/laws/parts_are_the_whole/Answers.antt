use Rattle.brd_crew.proofs.PartLemmas.{none-in-parts}
use Rattle.brd_crew.proofs.laws.parts_are_the_whole.Goals as goal

pub returns : goal.returns
returns c = none-in-parts

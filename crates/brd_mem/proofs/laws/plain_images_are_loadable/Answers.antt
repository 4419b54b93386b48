use Rattle.brd_mem.proofs.ImageLemmas.{loadable}
use Rattle.brd_mem.proofs.laws.plain_images_are_loadable.Goals as goal

pub returns : goal.returns
returns c = loadable

use Rattle.brd_elf.proofs.LoadableLemmas.{can_be_loaded}
use Rattle.brd_elf.proofs.laws.read_images_are_loadable.Goals as goal

pub returns : goal.returns
returns c = can_be_loaded

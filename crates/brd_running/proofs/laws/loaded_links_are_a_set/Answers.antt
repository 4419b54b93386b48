use Rattle.brd_running.proofs.LoadedLemmas.{links-set}
use Rattle.brd_running.proofs.laws.loaded_links_are_a_set.Goals as goal

pub returns : goal.returns
returns c = links-set

use Rattle.brd_patch.proofs.LawLemmas.{starts_with_data}
use Rattle.brd_patch.proofs.laws.memory_starts_with_data.Goals as goal

pub returns : goal.returns
returns c = starts_with_data

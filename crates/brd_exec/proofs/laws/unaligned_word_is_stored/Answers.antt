use Rattle.brd_exec.proofs.UnalignedLemmas.{store-whole}
use Rattle.brd_exec.proofs.laws.unaligned_word_is_stored.Goals as goal

pub returns : goal.returns
returns c = store-whole

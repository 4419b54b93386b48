use Rattle.brd_exec.proofs.UnalignedLemmas.{load-whole}
use Rattle.brd_exec.proofs.laws.unaligned_word_is_loaded.Goals as goal

pub returns : goal.returns
returns c = load-whole

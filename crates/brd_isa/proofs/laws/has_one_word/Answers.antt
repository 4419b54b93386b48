use Rattle.brd_isa.proofs.WordLemmas.{one_word}
use Rattle.brd_isa.proofs.laws.has_one_word.Goals as goal

pub returns : goal.returns
returns c = one_word

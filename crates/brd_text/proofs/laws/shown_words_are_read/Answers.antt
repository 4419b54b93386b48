use Rattle.brd_text.proofs.HexLemmas.{word_back}
use Rattle.brd_text.proofs.laws.shown_words_are_read.Goals as goal

pub returns : goal.returns
returns c = word_back

use Rattle.brd_journal.proofs.GrammarLemmas.{events_again}
use Rattle.brd_journal.proofs.laws.written_texts_are_read.Goals as goal

pub returns : goal.returns
returns c = events_again

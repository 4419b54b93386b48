use Rattle.brd_journal.proofs.GrammarLemmas.{text_says, says_text}
use Rattle.brd_journal.proofs.laws.texts_follow_the_grammar.Goals as goal

pub returns : goal.returns
returns c = λ limit text journal. (text_says limit text journal, says_text limit text journal)

use Rattle.brd_gdb.proofs.GrammarLemmas.{again, makes, makes_unknown, unknown_makes}
use Rattle.brd_gdb.proofs.laws.packets_follow_the_grammar.Goals as goal

pub returns-clause-makes : goal.returns-clause-makes
returns-clause-makes c = λ text request known. (makes text request known, again text request)

pub returns-clause-unknown : goal.returns-clause-unknown
returns-clause-unknown c = λ text. (unknown_makes text, makes_unknown text)

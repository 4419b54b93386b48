use Rattle.brd_isa.proofs.TableTheorem.{follows_the_table}
use Rattle.brd_isa.proofs.encoder.encode.Goals as goal

pub returns-clause-again : goal.returns-clause-again
returns-clause-again c = (follows_the_table c.word_of.result c.args.insn).1 c.word_of.ensures.related

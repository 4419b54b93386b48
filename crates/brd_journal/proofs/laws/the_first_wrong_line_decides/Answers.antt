use Rattle.brd_journal.proofs.FaultyLemmas.{fails, failed}
use Rattle.brd_journal.proofs.laws.the_first_wrong_line_decides.Goals as goal

pub returns : goal.returns
returns c = λ limit text fault. (fails limit text fault, failed limit text fault)

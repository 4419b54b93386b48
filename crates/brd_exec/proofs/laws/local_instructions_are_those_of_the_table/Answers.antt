use Rattle.brd_exec.proofs.LentLemmas.{local-table}
use Rattle.brd_exec.proofs.laws.local_instructions_are_those_of_the_table.Goals as goal

pub returns : goal.returns
returns c = local-table

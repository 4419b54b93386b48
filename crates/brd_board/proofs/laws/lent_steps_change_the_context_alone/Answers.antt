use Rattle.brd_board.proofs.BatchLemmas.{local-steps-go}
use Rattle.brd_board.proofs.laws.lent_steps_change_the_context_alone.Goals as goal

pub returns : goal.returns
returns c = local-steps-go

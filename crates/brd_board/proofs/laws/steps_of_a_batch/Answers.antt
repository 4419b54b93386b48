use Rattle.brd_board.proofs.BatchLemmas.{steps-go}
use Rattle.brd_board.proofs.laws.steps_of_a_batch.Goals as goal

pub returns : goal.returns
returns c = steps-go

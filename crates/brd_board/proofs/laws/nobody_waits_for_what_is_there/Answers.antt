use Rattle.brd_board.proofs.WaitingLemmas.{boot-keeps}
use Rattle.brd_board.proofs.laws.nobody_waits_for_what_is_there.Goals as goal

pub returns : goal.returns
returns c = λ image config board events is. (boot-keeps image config board events is).each

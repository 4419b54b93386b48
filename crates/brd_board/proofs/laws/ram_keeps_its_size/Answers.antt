use Rattle.brd_board.proofs.FormLemmas.{size-after}
use Rattle.brd_board.proofs.laws.ram_keeps_its_size.Goals as goal

pub returns : goal.returns
returns c = size-after

use Rattle.brd_board.proofs.FormLemmas.{order-after}
use Rattle.brd_board.proofs.laws.the_byte_order_stays.Goals as goal

pub returns : goal.returns
returns c = order-after

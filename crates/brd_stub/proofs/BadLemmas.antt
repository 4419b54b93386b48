-- The address of an exception, by its fault and the context of the thread.
use Rattle.std.proofs.Common.{◌≡◌, refl}
use Rattle.brd_board.specs.Board.{BoardState}
use Rattle.brd_stub.specs.declared.threads.Thread.{Thread}
use Rattle.brd_stub.specs.Threads.{context_at, fault_at}
use Rattle.brd_stub.specs.BadAddress.{bad_address, address_in}

pub written_out : (b : BoardState) (it : Thread) →
    bad_address b it ≡ address_in b.memory (fault_at b it) (context_at b it)
unfolding bad_address
written_out b it = refl

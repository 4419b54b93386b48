use Rattle.brd_stub.proofs.MovingLemmas.{stands-there}
use Rattle.brd_stub.proofs.moves.stop_there.Goals as goal

pub returns : goal.returns
returns c =
    stands-there c.args.debugger.now c.args.origin.last c.args.reason c.show-board.result.now c.stepper.result
    c.stepped_thread-thread.result c.standing_thread.result c.show-board.ensures.is c.stepper.ensures
    c.stepped_thread-thread.ensures c.standing_thread.ensures

use Rattle.brd_board.specs.Board.{happens}
use Rattle.brd_journal.proofs.StillLemmas.{happens-leaves, rests, after-still}
use Rattle.brd_journal.proofs.laws.what_did_nothing_does_nothing_again.Goals as goal

pub returns-clause-event : goal.returns-clause-event
returns-clause-event c = happens-leaves

pub returns-clause-again : goal.returns-clause-again
returns-clause-again c = λ board event count none. after-still (happens board event).board event count (rests board event none)

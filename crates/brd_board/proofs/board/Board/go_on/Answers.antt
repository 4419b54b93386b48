use Rattle.std.proofs.Common.{subst}
use Rattle.brd_board.specs.Board.{BoardState}
use Rattle.brd_board.specs.Batch.{AllRun}
use Rattle.brd_board.proofs.board.Board.go_on.Goals as goal

pub returns-clause-ran : goal.returns-clause-ran
returns-clause-ran c = let P : BoardState → Type 0 = λ b. AllRun b c.args.cpu c.batch.result in subst P c.has_read.ensures c.batch.ensures.ran

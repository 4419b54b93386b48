use Rattle.std.proofs.Common.{sym, ◌∙◌, arith}
use Rattle.brd_board.specs.Board.{task_of}
use Rattle.brd_explore.specs.Failures.{has_due}
use Rattle.brd_explore.proofs.FailureLemmas.{some-none, some-more, some-found}
use Rattle.brd_explore.proofs.wanted.some_waits_end.Goals as goal

pub loop-id-init : goal.loop-id-init
loop-id-init c = some-none (λ n. has_due (task_of c.args.board.now n))

pub returns-then-has_due : goal.returns-then-has_due
returns-then-has_due c = sym (some-found 256 c.loop-id.id (λ n. has_due (task_of c.args.board.now n)) (omega arith) (sym c.has_due.ensures ∙ c.if-has_due.true))

pub loop-id-preserved : goal.loop-id-preserved
loop-id-preserved c = some-more c.loop-id.id (λ n. has_due (task_of c.args.board.now n)) c.loop-id.invariant (sym c.has_due.ensures ∙ c.if-has_due.false)

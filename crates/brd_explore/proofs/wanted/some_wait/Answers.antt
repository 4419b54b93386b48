use Rattle.std.proofs.Common.{sym, ◌∙◌, arith}
use Rattle.brd_board.specs.Board.{task_of}
use Rattle.brd_explore.specs.Failures.{waits}
use Rattle.brd_explore.proofs.FailureLemmas.{some-none, some-more, some-found}
use Rattle.brd_explore.proofs.wanted.some_wait.Goals as goal

pub loop-id-init : goal.loop-id-init
loop-id-init c = some-none (λ n. waits (task_of c.args.board.now n))

pub returns-then-waits : goal.returns-then-waits
returns-then-waits c = sym (some-found 256 c.loop-id.id (λ n. waits (task_of c.args.board.now n)) (omega arith) (sym c.waits.ensures ∙ c.if-waits.true))

pub loop-id-preserved : goal.loop-id-preserved
loop-id-preserved c = some-more c.loop-id.id (λ n. waits (task_of c.args.board.now n)) c.loop-id.invariant (sym c.waits.ensures ∙ c.if-waits.false)

use Rattle.std.proofs.Common.{sym, ◌∙◌, arith}
use Rattle.brd_explore.specs.Failures.{is_due}
use Rattle.brd_explore.proofs.FailureLemmas.{some-none, some-more, some-found}
use Rattle.brd_explore.proofs.wanted.some_handlers_are_due.Goals as goal

pub loop-place-init : goal.loop-place-init
loop-place-init c = some-none (is_due c.args.board.now)

pub returns-then-is_due : goal.returns-then-is_due
returns-then-is_due c = sym (some-found 128 c.loop-place.place (is_due c.args.board.now) (omega arith) (sym c.is_due.ensures ∙ c.if-is_due.true))

pub loop-place-preserved : goal.loop-place-preserved
loop-place-preserved c = some-more c.loop-place.place (is_due c.args.board.now) c.loop-place.invariant (sym c.is_due.ensures ∙ c.if-is_due.false)

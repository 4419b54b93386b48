use Rattle.std.proofs.Common.{sym, ap, ◌∙◌, length, arith}
use Rattle.brd_source.proofs.Runs.{blank_step, comment_step}
use Rattle.brd_source.proofs.scanner.after_blanks.Goals as goal

pub loop-byte-preserved : goal.loop-byte-preserved
loop-byte-preserved c = (blank_step c.in-Some.byte.now c.loop-byte.left.now c.in-Some.after.now c.in-Some.ensures.cases.0 (sym c.is_space.ensures ∙ c.if-is_space.true) ∙ c.loop-byte.invariant.0, omega (arith, c.loop-byte.invariant.1, ap length c.in-Some.ensures.cases.0))

pub returns-then-opens_comment-clause-same : goal.returns-then-opens_comment-clause-same
returns-then-opens_comment-clause-same c = sym c.loop-byte.invariant.0 ∙ comment_step c.in-Some.byte.now c.loop-byte.left.now c.in-Some.after.now c.in-Some.ensures.cases.0 (sym c.opens_comment.ensures ∙ c.if-opens_comment.true)

pub returns-in-Some-clause-shorter : goal.returns-in-Some-clause-shorter
returns-in-Some-clause-shorter c = c.loop-byte.invariant.1

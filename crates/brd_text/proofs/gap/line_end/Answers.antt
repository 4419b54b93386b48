use Rattle.std.proofs.Common.{sym, ◌∙◌}
use Rattle.brd_text.proofs.Runs.{newline_ends}
use Rattle.brd_text.proofs.gap.line_end.Goals as goal

pub returns-then-byte-eq10-clause-same : goal.returns-then-byte-eq10-clause-same
returns-then-byte-eq10-clause-same c = λ line. sym (c.loop-byte.invariant.same line) ∙ newline_ends line c.in-Some.byte.now c.loop-byte.left.now c.in-Some.after.now c.in-Some.ensures.cases.0 c.if-byte-eq10.true

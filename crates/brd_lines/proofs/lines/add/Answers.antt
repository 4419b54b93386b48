use Rattle.std.proofs.Common.{arith}
use Rattle.brd_lines.proofs.LineLemmas.{one_more, end_of-more}
use Rattle.brd_lines.proofs.lines.add.Goals as goal

pub returns-clause-apart : goal.returns-clause-apart
returns-clause-apart c =
    rw c.in_ok-push.ensures.items (one_more 0 c.args.stretches.now.items _ c.requires.apart
    (omega (arith, c.requires.ends, c.max-from.ensures)) c.if-stretch-from.false)

pub returns-clause-ends : goal.returns-clause-ends
returns-clause-ends c = rw c.in_ok-push.ensures.items (end_of-more 0 c.args.stretches.now.items _)

use Rattle.brd_text.proofs.LineLemmas.{only_line, line_and_more}
use Rattle.brd_text.proofs.line.split_line.Goals as goal

pub returns-in-None-clause-lines : goal.returns-in-None-clause-lines
returns-in-None-clause-lines c =
    only_line c.args.text.now c.split_at.result.0.now c.split_at.result.1.now c.line_len.result c.line_len.ensures.is c.split_at.ensures.front c.split_at.ensures.back c.in-None.ensures.cases

pub returns-in-Some-clause-lines : goal.returns-in-Some-clause-lines
returns-in-Some-clause-lines c =
    line_and_more c.args.text.now c.split_at.result.0.now c.split_at.result.1.now c.in-Some.behind.now c.line_len.result c.in-Some.field-0-0.now c.line_len.ensures.is c.split_at.ensures.front c.split_at.ensures.back c.in-Some.ensures.cases.0

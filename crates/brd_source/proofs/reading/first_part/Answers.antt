use Rattle.brd_source.proofs.Parts.{part_and_more, only_part}
use Rattle.brd_source.proofs.reading.first_part.Goals as goal

pub returns-in-None-clause-parts : goal.returns-in-None-clause-parts
returns-in-None-clause-parts c =
    only_part c.args.tokens.now c.split_at.result.0.now c.split_at.result.1.now c.part_len.result c.part_len.ensures.is c.split_at.ensures.front c.split_at.ensures.back c.in-None.ensures.cases

pub returns-in-Some-clause-parts : goal.returns-in-Some-clause-parts
returns-in-Some-clause-parts c =
    part_and_more c.args.tokens.now c.split_at.result.0.now c.split_at.result.1.now c.in-Some.behind.now c.in-Some.field-0-0.now c.part_len.result c.part_len.ensures.is c.split_at.ensures.front c.split_at.ensures.back c.in-Some.ensures.cases.0

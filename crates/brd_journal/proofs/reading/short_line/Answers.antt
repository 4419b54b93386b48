use Rattle.brd_journal.proofs.FrontLemmas.{front_bytes}
use Rattle.brd_journal.proofs.reading.short_line.Goals as goal

pub returns-clause-reads : goal.returns-clause-reads
returns-clause-reads c =
    front_bytes c.args.text.now c.in_ok-blank.blank.now c.in_ok-fields.fields.now c.in_ok-cpu.second.now c.in_ok-counted.counted.now c.in_ok-count.end.now c.in_ok-cpu.cpu c.in_ok-count.count c.in_ok-after.after
    c.in_ok-blank.ensures.found c.in_ok-fields.ensures.found c.in_ok-cpu.ensures.found c.in_ok-counted.ensures.found c.in_ok-count.ensures.found c.in_ok-after.ensures.found
    c.in_ok-cpu.ensures.most c.in_ok-count.ensures.least c.in_ok-count.ensures.most

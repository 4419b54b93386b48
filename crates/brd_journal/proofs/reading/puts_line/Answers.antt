use Rattle.std.proofs.Common.{◌+◌, ap, ◌∙◌}
use Rattle.brd_text.specs.Faults.{◌>>=◌}
use Rattle.brd_text.specs.Lines.{lines_of}
use Rattle.brd_journal.specs.Reading.{lines_read}
use Rattle.brd_journal.proofs.reading.puts_line.Goals as goal

pub returns-then-puts-clause-reads : goal.returns-then-puts-clause-reads
returns-then-puts-clause-reads c = λ number.
    c.in_ok-run.ensures.reads c.args.journal.now number
    ∙ ap (λ made. made >>= (λ more. lines_read more (number + 1) (lines_of c.in_ok-run.after.now))) (c.puts.ensures.appended c.if-puts.true)

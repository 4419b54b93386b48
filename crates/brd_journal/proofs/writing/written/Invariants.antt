use Rattle.brd_journal.specs.Text.{text_of_runs}
use Rattle.brd_journal.proofs.WriteLemmas.{Written}
use Rattle.brd_journal.proofs.writing.written.Given as goal

abbrev pub invariant-loop-run : goal.invariant-loop-run
invariant-loop-run l = Written l.runs l.run-index l.text.items (text_of_runs l.fn.order l.runs)

use Rattle.std.proofs.Common.{[], ◌∷◌, append_assoc, arith}
use Rattle.std.proofs.lemmas.List.{drop_all}
use Rattle.brd_journal.specs.Text.{first_line, lines_of_runs}
use Rattle.brd_journal.proofs.WriteLemmas.{written_first, written_more, written_all}
use Rattle.brd_journal.proofs.writing.written.Goals as goal

pub loop-run-init : goal.loop-run-init
loop-run-init c = written_first c.args.runs.now c.push.new.self.items _ (rw (c.in_ok-push.ensures.items, c.in_ok-put_first_line.ensures, c.in_ok-text.ensures.items)
    (append_assoc (first_line c.args.order) (10 ∷ []) (lines_of_runs c.args.runs.now)))

pub loop-run-preserved : goal.loop-run-preserved
loop-run-preserved c = written_more c.args.runs.now c.loop-run.run-index c.loop-run.text.items c.put_line.new.text.items _ _ c.loop-run.invariant (omega arith) c.in_ok-put_line.ensures.put c.in_ok-put_line.ensures.numbered

pub returns-clause-is : goal.returns-clause-is
returns-clause-is c = (written_all c.args.runs.now c.loop-run.run-index c.loop-run.text.items _ c.loop-run.invariant (drop_all c.loop-run.run-index c.args.runs.now (omega arith))).0

pub returns-clause-numbered : goal.returns-clause-numbered
returns-clause-numbered c = (written_all c.args.runs.now c.loop-run.run-index c.loop-run.text.items _ c.loop-run.invariant (drop_all c.loop-run.run-index c.args.runs.now (omega arith))).1

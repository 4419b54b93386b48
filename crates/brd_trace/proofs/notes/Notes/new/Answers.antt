use Rattle.std.proofs.Common.{ap, ◌∙◌}
use Rattle.brd_trace.specs.Noted.{off_by}
use Rattle.brd_trace.proofs.NotedLemmas.{knows-all}
use Rattle.brd_trace.proofs.DatedLemmas.{dated-first}
use Rattle.brd_trace.proofs.notes.Notes.new.Goals as goal

pub returns-clause-knows : goal.returns-clause-knows
returns-clause-knows c =
    knows-all c.args.board.now _ 0 c.in_ok-tasks_seen.ensures c.of.ensures (c.off_by.ensures ∙ ap (λ off. off_by off 0) c.is_off.ensures)

pub returns-clause-dated : goal.returns-clause-dated
returns-clause-dated c = λ events.
    dated-first c.args.board.now events _ c.in_ok-tasks_seen.ensures (c.off_by.ensures ∙ ap (λ off. off_by off 0) c.is_off.ensures)
    c.in_ok-no_faults.ensures

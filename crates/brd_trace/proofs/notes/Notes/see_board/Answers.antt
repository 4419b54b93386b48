use Rattle.std.proofs.Common.{ap, ◌∙◌}
use Rattle.brd_trace.specs.Noted.{off_by}
use Rattle.brd_trace.proofs.NotedLemmas.{knows-all}
use Rattle.brd_trace.proofs.notes.Notes.see_board.Goals as goal

pub returns-clause-knows : goal.returns-clause-knows
returns-clause-knows c =
    knows-all c.args.board.now _ c.args.position c.in_ok-self.ensures c.of-self.ensures
    (c.off_by-self.ensures ∙ ap (λ off. off_by off c.args.position) c.is_off.ensures)

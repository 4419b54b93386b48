use Rattle.std.proofs.Common.{ap, ◌∙◌}
use Rattle.brd_journal.specs.Runs.{runs_of}
use Rattle.brd_journal.specs.Journal.{JournalState}
use Rattle.brd_journal.proofs.Cutting.{runs_are}
use Rattle.brd_journal.proofs.journal.Journal.runs.Goals as goal

pub returns-clause-runs : goal.returns-clause-runs
returns-clause-runs c = c.as_slice.ensures ∙ runs_are c.self.inside.runs c.self.invariant.cut ∙ ap (λ (j : JournalState). runs_of j.events) c.self.view_is

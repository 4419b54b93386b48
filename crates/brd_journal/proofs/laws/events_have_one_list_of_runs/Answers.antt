use Rattle.std.proofs.Common.{List, sym, subst, ap, ◌∙◌}
use Rattle.brd_journal.specs.declared.run.Run.{Run}
use Rattle.brd_journal.specs.Runs.{runs_of, AreRunsOf}
use Rattle.brd_journal.proofs.Cutting.{runs_events, runs_cut, runs_are}
use Rattle.brd_journal.proofs.laws.events_have_one_list_of_runs.Goals as goal

pub returns : goal.returns
returns c = λ events runs. (
  (λ same. let P : List Run → Type 0 = λ rs. AreRunsOf events rs in subst P (sym same) (record { same = runs_events events; cut = runs_cut events })),
  (λ are. runs_are runs are.cut ∙ ap runs_of are.same),
)

use Rattle.std.proofs.Common.{ap, ◌∙◌}
use Rattle.std.specs.Prelude.{slice_set}
use Rattle.std.proofs.lemmas.List.{length-set}
use Rattle.brd_tasks.specs.Tasks.{task_at}
use Rattle.brd_kernel.specs.Waits.{base_in}
use Rattle.brd_kernel.proofs.BelowLemmas.{bases_more}
use Rattle.brd_kernel.proofs.kernel.Kernel.bases.Goals as goal

pub loop-id-preserved : goal.loop-id-preserved
loop-id-preserved c = record {
  is = ap (slice_set c.loop-id.bases c.loop-id.id) c.base.ensures
      ∙ ap (λ l. slice_set l c.loop-id.id (base_in (task_at c.args.self.now.tasks c.loop-id.id))) c.loop-id.invariant.is
      ∙ bases_more c.args.self.now.tasks c.loop-id.id;
  long = length-set c.loop-id.bases c.loop-id.id c.base.result ∙ c.loop-id.invariant.long;
}

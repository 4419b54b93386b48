use Rattle.std.proofs.Common.{ap, ◌∙◌}
use Rattle.std.specs.Prelude.{slice_set}
use Rattle.std.proofs.lemmas.List.{length-set}
use Rattle.brd_kernel.specs.Waits.{inheritor_for, reason_of}
use Rattle.brd_kernel.proofs.BelowLemmas.{inheritors_more}
use Rattle.brd_kernel.proofs.kernel.Kernel.inheritors.Goals as goal

pub loop-id-preserved : goal.loop-id-preserved
loop-id-preserved c = record {
  is = ap (slice_set c.loop-id.inheritors c.loop-id.id)
      (c.inheritor.ensures ∙ ap (inheritor_for c.args.self.now) c.reason.ensures)
      ∙ ap (λ l. slice_set l c.loop-id.id (inheritor_for c.args.self.now (reason_of c.args.self.now c.loop-id.id)))
      c.loop-id.invariant.is
      ∙ inheritors_more c.args.self.now c.loop-id.id;
  long = length-set c.loop-id.inheritors c.loop-id.id c.inheritor.result ∙ c.loop-id.invariant.long;
}

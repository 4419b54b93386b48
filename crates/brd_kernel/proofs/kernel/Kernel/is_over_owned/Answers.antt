use Rattle.std.proofs.Common.{Bool, sym, ap, ◌∙◌}
use Rattle.std.specs.Prelude.{◌&&◌, ◌||◌}
use Rattle.brd_objects.specs.Table.{object_at}
use Rattle.brd_kernel.specs.Waits.{has_mutex_in}
use Rattle.brd_kernel.specs.Services.{is_over_mutex}
use Rattle.brd_kernel.proofs.BelowLemmas.{over_more}
use Rattle.brd_kernel.proofs.kernel.Kernel.is_over_owned.Goals as goal
use Rattle.brd_kernel.proofs.kernel.Kernel.is_over_owned.Goals.{then-over, else-over}

pub loop-at-preserved : goal.loop-at-preserved
loop-at-preserved c =
    let here : Bool = has_mutex_in c.args.id (object_at c.args.self.now.mutexes c.loop-at.at)
    && is_over_mutex c.args.priority (object_at c.args.self.now.mutexes c.loop-at.at) in
    let more = over_more c.args.self.now c.args.id c.args.priority c.loop-at.at in
    elim c.if-over.branch [
      | then-over w ↦ w.over-is ∙ w.if-over.true ∙ sym (ap (λ below. below || here) (sym c.loop-at.invariant ∙ w.if-over.true)) ∙ more
      | else-over w ↦ w.over-is ∙ c.is_over_at-here.ensures
          ∙ sym (ap (λ below. below || here) (sym c.loop-at.invariant ∙ w.if-over.false)) ∙ more
    ]

use Rattle.std.proofs.Common.{◌∙◌}
use Rattle.brd_kernel.proofs.CommonLemmas.{copied, copied-common}
use Rattle.brd_kernel.proofs.kernel.saved.SavedKernel.restore.Goals as goal

pub invariant_of-result : goal.invariant_of-result
invariant_of-result c = (copied-common c.self.inside.common c.in_ok-copy.field-0 _ _ _ _ _ _ _ _ _ _ _ _ c.in_ok-copy.ensures.is c.in_ok-restore.ensures c.in_ok-restore-2.ensures c.in_ok-restore-3.ensures c.in_ok-restore-4.ensures c.in_ok-restore-5.ensures c.in_ok-restore-6.ensures c.self.invariant, c.in_ok-copy.ensures.room)

pub returns : goal.returns
returns c =
    copied c.self.inside.common c.in_ok-copy.field-0 _ _ _ _ _ _ _ _ _ _ _ _ c.in_ok-copy.ensures.is c.in_ok-restore.ensures c.in_ok-restore-2.ensures c.in_ok-restore-3.ensures c.in_ok-restore-4.ensures c.in_ok-restore-5.ensures c.in_ok-restore-6.ensures
    ∙ c.self.view_is

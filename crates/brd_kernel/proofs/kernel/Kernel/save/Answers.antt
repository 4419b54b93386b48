use Rattle.std.proofs.Common.{◌∙◌}
use Rattle.brd_kernel.proofs.CommonLemmas.{copied, copied-common}
use Rattle.brd_kernel.proofs.kernel.Kernel.save.Goals as goal

pub invariant_of-result : goal.invariant_of-result
invariant_of-result c = copied-common c.self.inside.common c.in_ok-copy.field-0 _ _ _ _ _ _ _ _ _ _ _ _ c.in_ok-copy.ensures.is c.in_ok-save.ensures c.in_ok-save-2.ensures c.in_ok-save-3.ensures c.in_ok-save-4.ensures c.in_ok-save-5.ensures c.in_ok-save-6.ensures c.self.invariant.0

pub returns : goal.returns
returns c =
    copied c.self.inside.common c.in_ok-copy.field-0 _ _ _ _ _ _ _ _ _ _ _ _ c.in_ok-copy.ensures.is c.in_ok-save.ensures c.in_ok-save-2.ensures c.in_ok-save-3.ensures c.in_ok-save-4.ensures c.in_ok-save-5.ensures c.in_ok-save-6.ensures
    ∙ c.self.view_is

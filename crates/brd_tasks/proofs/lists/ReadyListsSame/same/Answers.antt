use Rattle.std.proofs.Common.{sym, ap, ◌∙◌}
use Rattle.brd_tasks.specs.ReadyRings.{lists_of}
use Rattle.brd_tasks.proofs.MarkedLemmas.{rings-same}
use Rattle.brd_tasks.proofs.lists.ReadyListsSame.same.Goals as goal

pub returns : goal.returns
returns c = (
  λ passes. sym c.self.view_is ∙ ap lists_of (c.same.ensures.0 passes) ∙ c.other.view_is,
  λ equal. c.same.ensures.1 (rings-same c.self.inside.rings c.other.inside.rings c.self.invariant.count c.other.invariant.count (c.self.view_is ∙ equal ∙ sym c.other.view_is)),
)

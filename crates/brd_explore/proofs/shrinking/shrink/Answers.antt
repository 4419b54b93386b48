use Rattle.std.proofs.Common.{List, subst}
use Rattle.brd_board.specs.declared.event.Event.{Event}
use Rattle.brd_explore.specs.Shrinking.{IsPart}
use Rattle.brd_explore.proofs.PartLemmas.{part-both}
use Rattle.brd_explore.proofs.shrinking.shrink.Goals as goal

pub returns-clause-part : goal.returns-clause-part
returns-clause-part c = subst (λ (es : List Event). IsPart c.leave_out_each.new.events.items es) c.in_ok-left.ensures.items
    (part-both c.leave_out_each.new.events.items c.leave_out_stretches.new.events.items c.in_ok-left.left.items
    c.leave_out_each.ensures.part c.leave_out_stretches.ensures.part)

use Rattle.std.proofs.Common.{ap, ◌∙◌}
use Rattle.std.specs.Prelude.{not}
use Rattle.brd_tasks.proofs.MarkedLemmas.{in-ring-as, marked-emptied-as, lists-left-as}
use Rattle.brd_tasks.proofs.lists.ReadyLists.take_out.Goals as goal

pub leave-requires : goal.leave-requires
leave-requires c =
    in-ring-as c.self.inside.rings c.args.self.now c.args.cpu c.args.priority c.args.id c.number-ring.result c.self.view_is c.requires.listed c.number-ring.ensures c.requires.there

pub invariant_of-self : goal.invariant_of-self
invariant_of-self c =
    marked-emptied-as c.self.inside.rings c.leave.new.self c.self.inside.mask.items c.clear_mark.new.marks.items c.args.cpu c.args.priority c.args.id c.number-ring.result c.head.result c.self.invariant
    c.requires.listed c.ranges.priority.fits c.number-ring.ensures c.leave.ensures c.head.ensures (c.is_none.ensures ∙ ap not c.if-is_none.true) c.clear_mark.ensures

pub returns-then-is_none : goal.returns-then-is_none
returns-then-is_none c =
    let there = in-ring-as c.self.inside.rings c.args.self.now c.args.cpu c.args.priority c.args.id c.number-ring.result c.self.view_is c.requires.listed c.number-ring.ensures c.requires.there in
    lists-left-as c.self.inside.rings c.leave.new.self c.self.inside.mask.items c.args.self.now c.args.cpu c.args.priority c.args.id c.number-ring.result c.self.invariant c.self.view_is c.requires.listed
    c.ranges.priority.fits c.are_apart.ensures there c.number-ring.ensures c.leave.ensures

pub returns-else-is_none : goal.returns-else-is_none
returns-else-is_none c =
    let there = in-ring-as c.self.inside.rings c.args.self.now c.args.cpu c.args.priority c.args.id c.number-ring.result c.self.view_is c.requires.listed c.number-ring.ensures c.requires.there in
    lists-left-as c.self.inside.rings c.leave.new.self c.self.inside.mask.items c.args.self.now c.args.cpu c.args.priority c.args.id c.number-ring.result c.self.invariant c.self.view_is c.requires.listed
    c.ranges.priority.fits c.are_apart.ensures there c.number-ring.ensures c.leave.ensures

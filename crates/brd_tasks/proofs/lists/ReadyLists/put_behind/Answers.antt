use Rattle.std.proofs.Common.{ap, ◌∙◌, []}
use Rattle.std.specs.Prelude.{slice_index_or}
use Rattle.brd_queue.specs.Queue.{has}
use Rattle.brd_tasks.proofs.MarkedLemmas.{none-anywhere, marked-entered-as, lists-entered-as}
use Rattle.brd_tasks.proofs.lists.ReadyLists.put_behind.Goals as goal

pub enter-requires-clause-new : goal.enter-requires-clause-new
enter-requires-clause-new c = λ other.
    none-anywhere c.self.inside.rings c.args.id other c.self.invariant.count (λ cpu. ap (λ l. has c.args.id (slice_index_or l cpu [])) c.self.view_is ∙ c.requires.new cpu)

pub invariant_of-self : goal.invariant_of-self
invariant_of-self c =
    marked-entered-as c.self.inside.rings c.enter.new.self c.self.inside.mask.items c.set_mark.new.marks.items c.args.cpu c.args.priority c.args.id c.number.result c.self.invariant c.requires.listed
    c.ranges.priority.fits c.number.ensures c.enter.ensures c.set_mark.ensures

pub returns : goal.returns
returns c =
    lists-entered-as c.self.inside.rings c.enter.new.self c.self.inside.mask.items c.args.self.now c.args.cpu c.args.priority c.args.id c.number.result c.self.invariant c.self.view_is c.requires.listed
    c.ranges.priority.fits c.number.ensures c.enter.ensures

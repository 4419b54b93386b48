use Rattle.std.proofs.Common.{◌≡◌, subst, []}
use Rattle.std.specs.Prelude.{slice_index_or}
use Rattle.brd_queue.specs.Queue.{priority_in, rotated}
use Rattle.brd_tasks.proofs.MarkedLemmas.{lists-turned-as, turn-stays}
use Rattle.brd_tasks.proofs.lists.ReadyLists.rotate.Goals as goal

pub returns-clause-is : goal.returns-clause-is
returns-clause-is c =
    lists-turned-as c.self.inside.rings c.rotate.new.self c.self.inside.mask.items c.args.self.now c.args.cpu c.args.priority c.number.result c.self.invariant c.self.view_is c.requires c.ranges.priority.fits
    c.are_apart.ensures c.number.ensures c.rotate.ensures

pub returns-clause-stay : goal.returns-clause-stay
returns-clause-stay c = λ id.
    subst (λ l. priority_in id (rotated c.args.priority (slice_index_or l c.args.cpu [])) ≡ priority_in id (slice_index_or l c.args.cpu [])) c.self.view_is
    (turn-stays c.self.inside.rings c.args.cpu c.args.priority id c.are_apart.ensures c.requires)

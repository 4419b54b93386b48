use Rattle.brd_queue.proofs.QueueLemmas.{small-changed-as, reordered-as}
use Rattle.brd_queue.proofs.queue.Queue.reorder.Goals as goal

pub move_behind-requires : goal.move_behind-requires
move_behind-requires g c = small-changed-as _ _ _ c.with_priority-entry.ensures c.entry.ensures.small

pub returns-in-Priority : goal.returns-in-Priority
returns-in-Priority g c = reordered-as c.args.order _ _ _ _ _ _ c.in-Priority.is c.move_behind.ensures c.with_priority-entry.ensures c.entry.ensures.is

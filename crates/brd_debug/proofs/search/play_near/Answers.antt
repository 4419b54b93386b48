use Rattle.brd_debug.specs.Kept.{plan_of}
use Rattle.brd_debug.proofs.KeptLemmas.{size-played, order-played}
use Rattle.brd_debug.proofs.NotedLemmas.{noted-near}
use Rattle.brd_debug.proofs.search.play_near.Goals as goal

pub note-requires-clause-sizes : goal.note-requires-clause-sizes
note-requires-clause-sizes c = size-played c.args.boot.now c.args.journal.now.events c.args.shown.now c.requires.shown

pub note-requires-clause-orders : goal.note-requires-clause-orders
note-requires-clause-orders c = order-played c.args.boot.now c.args.journal.now.events c.args.shown.now c.requires.shown

pub returns-clause-kept : goal.returns-clause-kept
returns-clause-kept c = c.in_ok-note.ensures.kept c.args.journal.now.events c.requires.shown c.requires.kept

pub returns-clause-noted : goal.returns-clause-noted
returns-clause-noted c =
    noted-near c.args.boot.now c.args.journal.now.events (plan_of c.args.snapshots.now) (plan_of c.note.new.self) c.args.shown.now.at c.args.to
    c.in_ok-note.ensures.noted c.requires.on c.requires.near

use Rattle.std.proofs.Common.{sym}
use Rattle.brd_journal.proofs.AddLemmas.{room_same, room_other}
use Rattle.brd_journal.proofs.runs.room_for.Goals as goal

pub returns-then-is_same : goal.returns-then-is_same
returns-then-is_same c = room_same c.args.runs.now c.args.event c.in-Some.last.now c.in-Some.ensures.value (sym c.if-is_same.ensures)

pub returns-else-is_same : goal.returns-else-is_same
returns-else-is_same c = room_other c.args.runs.now c.args.event c.in-Some.last.now c.in-Some.ensures.value (sym c.if-is_same.ensures)

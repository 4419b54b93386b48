-- What is known of the board stays.
use Rattle.brd_trace.specs.Noted.{KeepsKnown}
use Rattle.brd_trace.proofs.notes.Notes.put_tasks.Given as goal

abbrev pub invariant-loop-i : goal.invariant-loop-i
invariant-loop-i l = KeepsKnown l.fn.self l.self

-- What is known of the board stays.
use Rattle.brd_trace.specs.Noted.{KeepsKnown}
use Rattle.brd_trace.proofs.notes.Notes.put_rung.Given as goal

abbrev pub invariant-loop-rung : goal.invariant-loop-rung
invariant-loop-rung l = KeepsKnown l.fn.self l.self

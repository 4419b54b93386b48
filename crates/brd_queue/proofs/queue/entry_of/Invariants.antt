-- What was passed is of other tasks.
use Rattle.std.proofs.Common.{◌≡◌, drop}
use Rattle.std.specs.Prelude.{◌==◌, find}
use Rattle.brd_queue.proofs.queue.entry_of.Given as goal

abbrev pub invariant-loop-entry : goal.invariant-loop-entry
invariant-loop-entry g l = find (λ other. other.id == l.id) l.entries ≡ find (λ other. other.id == l.id) (drop l.entry-index l.entries)

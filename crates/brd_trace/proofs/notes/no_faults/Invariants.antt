-- There is no last exception in any of the places so far.
use Rattle.std.proofs.Common.{◌≡◌, replicate}
use Rattle.std.specs.Prelude.{None}
use Rattle.brd_trace.proofs.notes.no_faults.Given as goal

abbrev pub invariant-loop : goal.invariant-loop
invariant-loop l = l.faults.items ≡ replicate l.counter None

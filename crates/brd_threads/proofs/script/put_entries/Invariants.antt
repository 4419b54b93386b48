use Rattle.std.proofs.Common.{◌≡◌, ◌++◌, replicate}
use Rattle.brd_threads.proofs.script.put_entries.Given as goal

abbrev pub invariant-loop : goal.invariant-loop
invariant-loop l = l.script.items ≡ l.fn.script.items ++ replicate l.counter l.entry

-- no number so far has a count that it may not have
use Rattle.std.proofs.Common.{ℕ, ◌<◌}
use Rattle.brd_ledgers.specs.Shares.{IsOwn}
use Rattle.brd_ledgers.proofs.books.Books.are_of_first.Given as goal

abbrev pub invariant-loop-cpu : goal.invariant-loop-cpu
invariant-loop-cpu g l = (cpu : ℕ) → cpu < l.cpu → IsOwn l.processors l.self cpu

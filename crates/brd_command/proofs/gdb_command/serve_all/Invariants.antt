-- What was written answers the bytes before those that are left.
use Rattle.std.proofs.Common.{◌≡◌, List, ℕ}
use Rattle.std.specs.Prelude.{Some}
use Rattle.brd_command.proofs.ServerLemmas.{IsServed}
use Rattle.brd_command.proofs.gdb_command.serve_all.Given as goal

abbrev pub invariant-loop : goal.invariant-loop
invariant-loop g l =
    (text : List ℕ) → g.R.Read.remaining l.fn.input ≡ Some text →
    IsServed l.fn.server text (g.R.Read.remaining l.input) l.server (g.W.Write.contents l.fn.writer)
    (g.W.Write.contents l.writer)

-- Reads that were interrupted have taken nothing.
use Rattle.std.proofs.Common.{◌≡◌, List, ℕ}
use Rattle.std.specs.Prelude.{Some}
use Rattle.brd_command.proofs.gdb_input.next_sent.Given as goal

abbrev pub invariant-loop : goal.invariant-loop
invariant-loop g l =
    (text : List ℕ) → g.R.Read.remaining l.fn.input ≡ Some text → g.R.Read.remaining l.input ≡ Some text

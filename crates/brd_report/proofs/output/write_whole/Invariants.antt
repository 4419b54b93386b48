-- What was written so far, and then what is left, are all the bytes.
use Rattle.std.proofs.Common.{◌≡◌, ℕ, List, ◌++◌}
use Rattle.std.specs.Io.KnownBytes.{Appends}
use Rattle.brd_report.proofs.output.write_whole.Given as goal

abbrev pub invariant-loop : goal.invariant-loop
invariant-loop g l = (front : List ℕ) × (front ++ l.left ≡ l.bytes) × Appends (g.W.Write.contents l.fn.writer) (g.W.Write.contents l.writer) front

-- The stretches so far lie apart, and end there.
use Rattle.std.proofs.Common.{◌≡◌}
use Rattle.brd_lines.specs.Lines.{AreApart, end_of}
use Rattle.brd_lines.proofs.lines.apart.Given as goal

abbrev pub invariant-loop-stretch : goal.invariant-loop-stretch
invariant-loop-stretch l = record {
  apart : AreApart 0 l.stretches.items;
  ends : end_of 0 l.stretches.items ≡ l.end;
}

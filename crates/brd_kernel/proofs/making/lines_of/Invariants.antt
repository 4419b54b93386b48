use Rattle.std.proofs.Common.{◌≡◌}
use Rattle.brd_kernel.specs.Making.{made_lines}
use Rattle.brd_kernel.proofs.making.lines_of.Given as goal

abbrev pub invariant-loop-line : goal.invariant-loop-line
invariant-loop-line l = l.made.items ≡ made_lines l.setups l.line

-- The registers so far stand on the line.
use Rattle.std.proofs.Common.{◌≡◌}
use Rattle.brd_try.specs.Told.{registers_to}
use Rattle.brd_try.proofs.words.put_registers.Given as goal

abbrev pub invariant-loop-number : goal.invariant-loop-number
invariant-loop-number l = l.line.items ≡ registers_to l.context l.number

-- The bytes so far, and those of the numbers that are left, are those of all.
use Rattle.std.proofs.Common.{◌≡◌, ◌++◌, drop}
use Rattle.brd_elf.specs.File.{halves}
use Rattle.brd_elf.proofs.parts.put_halves.Given as goal

abbrev pub invariant-loop-number : goal.invariant-loop-number
invariant-loop-number l = l.out.items ++ halves l.order (drop l.number-index l.numbers) ≡ l.fn.out.items ++ halves l.order l.numbers

-- The bytes so far, and those of the numbers that are left, are those of all.
use Rattle.std.proofs.Common.{◌≡◌, ◌++◌, drop}
use Rattle.brd_elf.specs.File.{words}
use Rattle.brd_elf.proofs.parts.put_words.Given as goal

abbrev pub invariant-loop-number : goal.invariant-loop-number
invariant-loop-number l = l.out.items ++ words l.order (drop l.number-index l.numbers) ≡ l.fn.out.items ++ words l.order l.numbers

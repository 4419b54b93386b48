-- The pages below a number in which both differ.
use Rattle.std.proofs.Common.{◌≡◌}
use Rattle.brd_mem.specs.Pages.{differing_below}
use Rattle.brd_mem.proofs.ram.Ram.pages_after.Given as goal

abbrev pub invariant-loop-number : goal.invariant-loop-number
invariant-loop-number l = l.pages ≡ differing_below l.number l.base l.self

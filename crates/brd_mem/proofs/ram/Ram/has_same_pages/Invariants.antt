-- Below the page both have the same bytes.
use Rattle.std.proofs.Common.{◌≡◌, []}
use Rattle.brd_mem.specs.Pages.{differing_below}
use Rattle.brd_mem.proofs.ram.Ram.has_same_pages.Given as goal

abbrev pub invariant-loop-number : goal.invariant-loop-number
invariant-loop-number l = differing_below l.number l.other l.self ≡ []
